-- What is read of the front of a test, or of a parameter.
use Rattle.std.specs.Prelude.{◌≤◌, ℕ, List, [], ◌∷◌, length, Result, Ok, Err}
use Rattle.sml_tree.specs.declared.cond.Scope.{Scope}
use Rattle.sml_tree.specs.declared.cond.Scope.TheVariants.{One, All, Any}
use Rattle.sml_tree.specs.declared.file.Kind.{Kind}
use Rattle.sml_tree.specs.declared.file.Kind.TheVariants.{Int, Str}
use Rattle.sml_tree.specs.declared.token_kind.TokenKind.{TokenKind}
use Rattle.sml_tree.specs.declared.token_kind.TokenKind.TheVariants.{IntKind, StringKind, Name, AllIn, AnyIn}
use Rattle.sml_tree.specs.Piece.{Piece}
use Rattle.sml_tree.specs.Form.{P, Senses, StateLists, Unit'}
use Rattle.sml_tree.specs.Grammar.{asks_part}
use Rattle.sml_read_parts.specs.declared.fault.Stop.{Stop}
use Rattle.sml_read_parts.specs.Reads.{Stops}
use Rattle.sml_read_parts.specs.Trails.{Trail}

-- the first token of a test
abbrev pub first_of : Scope → TokenKind
first_of One = Name
first_of All = AllIn
first_of Any = AnyIn

-- the word of a kind
abbrev pub word_of_kind : Kind → TokenKind
word_of_kind Int = IntKind
word_of_kind Str = StringKind

-- what is read of a test before what it asks, inside any number of brackets
abbrev pub ReadsAsked : Scope → ℕ → List Piece → List Piece → Result (List ℕ) Stop → Type 0
ReadsAsked scope tests old new (Ok name) = (length new ≤ length old)
    × ((depth : ℕ) → Trail (Unit' depth tests) (P Senses ∷ P StateLists ∷ []) (asks_part scope name tests) old new)
ReadsAsked scope tests old new (Err e) = (depth : ℕ) → Stops (Unit' depth tests) old e
