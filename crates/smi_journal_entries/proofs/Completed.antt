-- Complete arguments are values of their parameters.
use Rattle.std.proofs.Common.{◌≡◌, ◌∙◌, Bool, true, false, cond, not, ℕ, List, [], ◌∷◌, All, get_or, map, find, Option, None, Some, option_map, is_some, is_none, sym, refl, ap, subst, pos}
use Rattle.std.specs.Prelude.{◌||◌, ◌&&◌}
use Rattle.std.specs.List.{list_any, AllZip}
use Rattle.std.specs.Option.{option_map_or}
use Rattle.std.proofs.lemmas.Bool.{or_parts, or_left, or_right}
use Rattle.std.proofs.lemmas.List.Folds.{list_any_at}
use Rattle.std.proofs.lemmas.List.Elements.{All-cons, All-nil}
use Rattle.sml_tree.specs.declared.file.Kind.{Kind}
use Rattle.sml_tree.specs.declared.file.Kind.TheVariants.{Int as IntKind, Str as StrKind}
use Rattle.sml_domain.specs.declared.value.Value.{Value}
use Rattle.sml_domain.specs.declared.value.Value.TheVariants.{Int}
use Rattle.sml_domain.specs.Values.{kind_of}
use Rattle.sml_domain.specs.Program.{Operand, Fixed, Own, Given, Argument}
use Rattle.sml_domain.specs.Domain.{Param}
use Rattle.sml_domain.specs.Completing.{Passed, is_passed_by, value_passed, value_or, complete}
use Rattle.sml_domain.specs.Fits.{kind_named, names_argument, ArgumentFits, IsGiven}
use Rattle.sml_domain.specs.Laws.{KeepsKinds, IsFilled, CompletesWithKinds, passed_as}
use Rattle.smi_journal_entries.specs.Fits.{are_values_of}
use Rattle.smi_journal_entries.specs.BadArguments.{has_unknown_name, has_wrong_kind, repeats_a_name, gets_none}
use Rattle.smi_journal_entries.specs.Laws.{CompleteFits}
use Rattle.sml_tree.specs.Kinds.{same_kind}

pub kinds_same : (j k : Kind) → k ≡ j → same_kind j k ≡ true
kinds_same IntKind IntKind e = refl
kinds_same IntKind StrKind e = absurd (cc e)
kinds_same StrKind IntKind e = absurd (cc e)
kinds_same StrKind StrKind e = refl

kinds_are : (j k : Kind) → not (same_kind j k) ≡ false → k ≡ j
kinds_are IntKind IntKind e = refl
kinds_are IntKind StrKind e = absurd (cc e)
kinds_are StrKind IntKind e = absurd (cc e)
kinds_are StrKind StrKind e = refl

-- a test that none of a list passes
none_so : {X : Type 0} (test : X → Bool) (xs : List X) → list_any test xs ≡ false → All (λ x. test x ≡ false) xs
none_so test xs h k d lt =
    go (test (get_or xs k d)) refl
  where
    go : (b : Bool) → test (get_or xs k d) ≡ b → b ≡ false
    go true e = absurd (cc (sym (list_any_at test xs k d lt e) ∙ h))
    go false e = refl

some_first : {X : Type 0} (b rest : Bool) (x y : X) (o : Option X) → (o ≡ Some y → rest ≡ true) → cond b (Some x) o ≡ Some y → (b || rest) ≡ true
some_first true rest x y o h e = refl
some_first false rest x y o h e = h e

-- what is found passes
passes_found : {X : Type 0} (test : X → Bool) (xs : List X) (y : X) → find test xs ≡ Some y → list_any test xs ≡ true
passes_found test [] y h = absurd (cc h)
passes_found test (x ∷ xs) y h = some_first (test x) (list_any test xs) x y (find test xs) (passes_found test xs y) h

-- ---- what is passed, as arguments that are written out

abbrev argument_of : Passed → Argument
argument_of x = record { name = x.name; value = Fixed x.value }

abbrev written : Operand → Value
written (Fixed v) = v
written (Own p) = Int (pos 0)
written (Given p) = Int (pos 0)

same_passed : (passed : List Passed) → map (passed_as written) (map argument_of passed) ≡ passed
same_passed [] = refl
same_passed (x ∷ xs) = ap (λ ys. x ∷ ys) (same_passed xs)

keeps : KeepsKinds [] [] written
keeps (Fixed v) kind e = cc e
keeps (Own p) kind e = absurd (cc e)
keeps (Given p) kind e = absurd (cc e)

-- a value of a known name and of the right kind fits
one_fits : (params : List Param) (x : Passed) → has_unknown_name params x ≡ false → has_wrong_kind params x ≡ false → ArgumentFits [] [] params (argument_of x)
one_fits params x known right =
    go (kind_named params x.name) refl known right
  where
    go : (o : Option Kind) → kind_named params x.name ≡ o → is_none o ≡ false → option_map_or (λ (k : Kind). not (same_kind k (kind_of x.value))) o false ≡ false → ArgumentFits [] [] params (argument_of x)
    go None e h w = absurd (cc h)
    go (Some k) e h w = record { kind = k; param_is = e; value_is = ap Some (kinds_are k (kind_of x.value) w) }

all_fit : (params : List Param) (passed : List Passed) → list_any (has_unknown_name params) passed ≡ false → list_any (has_wrong_kind params) passed ≡ false → All (ArgumentFits [] [] params) (map argument_of passed)
all_fit params [] known right = All-nil (ArgumentFits [] [] params)
all_fit params (x ∷ xs) known right =
    let first = or_parts (has_unknown_name params x) (list_any (has_unknown_name params) xs) known in
    let second = or_parts (has_wrong_kind params x) (list_any (has_wrong_kind params) xs) right in
    All-cons (ArgumentFits [] [] params) (argument_of x) (map argument_of xs) (one_fits params x first.0 second.0) (all_fit params xs first.1 second.1)

any_argument : (name : List ℕ) (passed : List Passed) → list_any (names_argument name) (map argument_of passed) ≡ list_any (is_passed_by name) passed
any_argument name [] = refl
any_argument name (x ∷ xs) = ap (λ b. is_passed_by name x || b) (any_argument name xs)

-- a parameter with a value is given
one_given : (passed : List Passed) (p : Param) → gets_none passed p ≡ false → IsGiven (map argument_of passed) p
one_given passed p h =
    ap (λ b. b || is_some p.value) (any_argument p.name passed) ∙ go (find (is_passed_by p.name) passed) refl h
  where
    has_default : (o : Option Value) → is_none o ≡ false → is_some o ≡ true
    has_default None e = absurd (cc e)
    has_default (Some v) e = refl

    go : (o : Option Passed) → find (is_passed_by p.name) passed ≡ o → is_none (value_or (option_map value_passed o) p.value) ≡ false → (list_any (is_passed_by p.name) passed || is_some p.value) ≡ true
    go None e n = or_right (list_any (is_passed_by p.name) passed) (is_some p.value) (has_default p.value n)
    go (Some x) e n = or_left (list_any (is_passed_by p.name) passed) (is_some p.value) (passes_found (is_passed_by p.name) passed x e)

-- ---- values that parameters get

are_values : (params : List Param) (args : List Value) → AllZip IsFilled params (map Some args) → are_values_of params args ≡ true
are_values [] [] h = refl
are_values [] (v ∷ vs) h = absurd h
are_values (p ∷ ps) [] h = absurd h
are_values (p ∷ ps) (v ∷ vs) h = ap (λ b. b && are_values_of ps vs) (kinds_same p.kind (kind_of v) h.0) ∙ are_values ps vs h.1

pub complete_fits : CompletesWithKinds → CompleteFits
complete_fits law params passed args fit apart good same =
    let unknown = or_parts (list_any (has_unknown_name params) passed) _ good in
    let repeated = or_parts (repeats_a_name passed) _ unknown.1 in
    let missing = or_parts (list_any (gets_none passed) params) _ repeated.1 in
    let kinds = or_parts (list_any (has_wrong_kind params) passed) false missing.1 in
    let given = none_so (gets_none passed) params missing.0 in
    let whole = law [] [] params (map argument_of passed) written keeps fit apart
    (record { passed = all_fit params passed unknown.0 kinds.0; whole = λ k d lt. one_given passed (get_or params k d) (given k d lt) }) in
    are_values params args (subst (λ vs. AllZip IsFilled params vs) (ap (complete params) (same_passed passed) ∙ sym same) whole)
