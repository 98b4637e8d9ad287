-- What is passed by name, and why it makes no arguments.
use Rattle.std.specs.Prelude.{Bool, false, not, ◌||◌, List, [], ◌∷◌, is_none}
use Rattle.std.specs.List.{list_any}
use Rattle.std.specs.Option.{option_map_or}
use Rattle.sml_tree.specs.declared.file.Kind.{Kind}
use Rattle.sml_domain.specs.Values.{kind_of}
use Rattle.sml_domain.specs.Domain.{Param}
use Rattle.sml_domain.specs.Fits.{kind_named}
use Rattle.sml_domain.specs.Completing.{Passed, is_passed_by, value_for}
use Rattle.sml_tree.specs.Kinds.{same_kind}

-- whether a value is passed by a name that no parameter has
abbrev pub has_unknown_name : List Param → Passed → Bool
has_unknown_name params x = is_none (kind_named params x.name)

-- whether two values are passed by one name
abbrev pub repeats_a_name : List Passed → Bool
repeats_a_name [] = false
repeats_a_name (x ∷ xs) = list_any (is_passed_by x.name) xs || repeats_a_name xs

-- whether a parameter gets no value, passed or by default
abbrev pub gets_none : List Passed → Param → Bool
gets_none passed p = is_none (value_for passed p)

-- whether a value is of another kind than the parameter of its name
abbrev pub has_wrong_kind : List Param → Passed → Bool
has_wrong_kind params x =
    option_map_or (λ (k : Kind). not (same_kind k (kind_of x.value))) (kind_named params x.name) false

-- the causes for which what is passed makes no arguments
pub data BadArgument : Type 0 where
  UnknownName : BadArgument
  RepeatedName : BadArgument
  MissingValue : BadArgument
  WrongKind : BadArgument

-- these causes
abbrev pub bad_arguments : List BadArgument
bad_arguments = UnknownName ∷ RepeatedName ∷ MissingValue ∷ WrongKind ∷ []

-- whether a cause stands, of what is passed for parameters
abbrev pub cause_stands : List Param → List Passed → BadArgument → Bool
cause_stands params passed UnknownName = list_any (has_unknown_name params) passed
cause_stands params passed RepeatedName = repeats_a_name passed
cause_stands params passed MissingValue = list_any (gets_none passed) params
cause_stands params passed WrongKind = list_any (has_wrong_kind params) passed

-- whether one of them stands
abbrev pub are_bad : List Param → List Passed → Bool
are_bad params passed = list_any (cause_stands params passed) bad_arguments
