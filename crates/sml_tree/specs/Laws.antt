-- The laws of the grammar.
use Rattle.std.specs.Prelude.{◌≡◌, ◌↔◌, ◌≤◌, ◌⊎◌, ℕ, Bool, false, List}
use Rattle.std.specs.List.{AllByRecursion}
use Rattle.sml_tree.specs.declared.token_kind.TokenKind.TheVariants.{Not, OpenBracket, Name}
use Rattle.sml_tree.specs.Syntax.{CondData, ItemData}
use Rattle.sml_tree.specs.Piece.{Piece, is_reserved, word_kind}
use Rattle.sml_tree.specs.Form.{Part, Value, part, File, Cond, StateMark, Deep}
use Rattle.sml_tree.specs.Derive.{Marked, Derives, plain, IsFile}
use Rattle.sml_tree.specs.Condition.{IsCond}
use Rattle.sml_tree.specs.StateMarks.{AreMarks}
use Rattle.sml_tree.specs.Inside.{conditions}
use Rattle.sml_tree.specs.Brackets.{open_depth}
use Rattle.sml_tree.specs.Limits.{IsWithinLimits}
use Rattle.sml_tree.specs.declared.limits.TheConstants.{MAX_OPEN}

-- the tokens are a text of the part, under some marks, and it is then worth v
abbrev pub IsTextOf : (n : Part) → List Piece → Value n → Type 0
IsTextOf n ts v = (ms : List Marked) × (plain ms ≡ ts) × Derives n _ (part n) ms v

-- the table derives the conditions of the grammar's own shape and no others, with any counts before them
abbrev pub SameConditions : Type 0
SameConditions = (depth tests : ℕ) (ts : List Piece) (c : CondData) →
    ((count : ℕ) × IsTextOf (Cond depth tests) ts (record { formula = c; count = count })) ↔ IsCond ts c

-- the table derives the marks of a state of the grammar's own shape and no others
abbrev pub SameMarks : Type 0
SameMarks = (ts : List Piece) (initial dead : Bool) → IsTextOf StateMark ts (record { initial = initial; dead = dead })
    ↔ AreMarks ts initial dead

-- a word is read as a name exactly if it is not reserved
abbrev pub NamesAreNotReserved : Type 0
NamesAreNotReserved = (word : List ℕ) → (word_kind false word ≡ Name) ↔ (is_reserved word ≡ false)

-- the canonical text of each condition of a file has at most sixteen open brackets and `not`s
abbrev pub FewBrackets : Type 0
FewBrackets = (ts : List Piece) (file : List ItemData) → IsFile ts file →
    AllByRecursion (λ c. open_depth c ≤ MAX_OPEN) (conditions file)

-- a token that is not a `not` or a bracket nested too deep
abbrev pub IsNotTooDeep : Marked → Type 0
IsNotTooDeep m = m.mark ≡ Deep → (m.token.kind ≡ Not) ⊎ (m.token.kind ≡ OpenBracket) → ⊥

-- What is derived without any mark is what is derived at all and is within the limits. That no `not` and no bracket is
-- too deep is required of the tokens, since brackets leave no trace in the tree.
abbrev pub WithinLimits : Type 0
WithinLimits = (ts : List Piece) (file : List ItemData) → IsFile ts file
    ↔ ((ms : List Marked) × (plain ms ≡ ts) × Derives (File 0 0 0) _ (part (File 0 0 0)) ms file
    × AllByRecursion IsNotTooDeep ms × IsWithinLimits file)
