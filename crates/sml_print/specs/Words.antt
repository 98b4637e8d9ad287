-- The canonical text of values, parameters and lists.
use Rattle.std.specs.Prelude.{ℕ, zero, suc, ◌+◌, ◌^◌, ◌-◌, min, List, [], ◌∷◌, ◌++◌, Option, Some, None, codes, flat_map}
use Rattle.sml_text.specs.Decimal.{int_text}
use Rattle.sml_tree.specs.Syntax.{LiteralData, int, str, ArgData, lit, param, PassedData, ClassParamData, ActionParamData}
use Rattle.sml_tree.specs.declared.file.Kind.{Kind}
use Rattle.sml_tree.specs.declared.file.Kind.TheVariants.{Int, Str}

-- two blanks a level
abbrev pub indent : ℕ → List ℕ
indent zero = []
indent (suc level) = codes "  " ++ indent level

-- a level further in; levels are counted up to 2^32 - 1
abbrev pub deeper : ℕ → ℕ
deeper level = min (level + 1) (2 ^ 32 - 1)

-- the comma of a list, behind the given number of its texts
abbrev pub comma_behind : ℕ → List ℕ
comma_behind zero = []
comma_behind (suc n) = codes ", "

-- a text with a comma before it
abbrev pub comma_text : {X : Type 0} → (X → List ℕ) → X → List ℕ
comma_text text x = codes ", " ++ text x

-- texts with commas between them
abbrev pub comma_list : {X : Type 0} → (X → List ℕ) → List X → List ℕ
comma_list text [] = []
comma_list text (x ∷ xs) = text x ++ flat_map (comma_text text) xs

-- a list in brackets behind a blank, or nothing if it is empty
abbrev pub bracket_list : {X : Type 0} → (X → List ℕ) → List X → List ℕ
bracket_list text [] = []
bracket_list text (x ∷ xs) = codes " (" ++ (comma_list text (x ∷ xs) ++ codes ")")

-- a name, unchanged
abbrev pub name_text : List ℕ → List ℕ
name_text name = name

-- a value
abbrev pub literal_text : LiteralData → List ℕ
literal_text (int n) = int_text n
literal_text (str bytes) = codes "\"" ++ (bytes ++ codes "\"")

-- a value or the name of a parameter
abbrev pub arg_text : ArgData → List ℕ
arg_text (lit value) = literal_text value
arg_text (param name) = name

-- an argument
abbrev pub passed_text : PassedData → List ℕ
passed_text p = p.name ++ (codes " = " ++ arg_text p.value)

-- the kind of a parameter
abbrev pub kind_text : Kind → List ℕ
kind_text Int = codes "int "
kind_text Str = codes "string "

-- the default of a parameter, if it has one
abbrev pub default_text : Option LiteralData → List ℕ
default_text None = []
default_text (Some value) = codes " = " ++ literal_text value

-- a parameter of a class
abbrev pub class_param_text : ClassParamData → List ℕ
class_param_text p = kind_text p.kind ++ (p.name ++ (codes " = " ++ literal_text p.value))

-- a parameter of an action
abbrev pub action_param_text : ActionParamData → List ℕ
action_param_text p = kind_text p.kind ++ (p.name ++ default_text p.default)

-- the members of a set
abbrev pub members_text : List (List ℕ) → List ℕ
members_text [] = codes "{ }"
members_text (name ∷ names) = codes "{ " ++ (comma_list name_text (name ∷ names) ++ codes " }")
