-- What is read of a test, by the tokens and parts that were read of it.
use Rattle.std.proofs.Common.{◌≡◌, ◌+◌, ◌⊎◌, inl, inr, ℕ, Bool, true, false, List, [], ◌∷◌, refl, ◌∙◌, nat_lt, Err}
use Rattle.sml_tree.specs.declared.cond.Scope.{Scope}
use Rattle.sml_tree.specs.declared.cond.Scope.TheVariants.{One, All, Any}
use Rattle.sml_tree.specs.declared.token_kind.TokenKind.TheVariants.{Name, AllIn, AnyIn}
use Rattle.sml_tree.specs.Piece.{Piece}
use Rattle.sml_tree.specs.Syntax.{CondData, test}
use Rattle.sml_tree.specs.Grammar.{name, asks_part}
use Rattle.sml_tree.specs.Form.{B, P, Senses, StateLists, Unit', Sense, StateList, Fine, needs}
use Rattle.sml_read_parts.specs.declared.fault.Fault.TheVariants.{TooMany}
use Rattle.sml_read_parts.specs.declared.fault.Stop.{Stop}
use Rattle.sml_read_parts.specs.declared.fault.Stop.TheVariants as stop
use Rattle.sml_read_parts.specs.Reads.{Passes, Refuses, Stops, SeesKind, ReadsToken}
use Rattle.sml_read_parts.specs.Asks.{first_of}
use Rattle.sml_read_parts.specs.Trails.{Trail}
use Rattle.sml_read_parts.proofs.Steps.{Taken, seen}
use Rattle.sml_read_parts.proofs.Trails.{token_read, token_refused}
use Rattle.sml_tree.specs.declared.limits.TheConstants.{MAX_TESTS}

-- a set is asked, and not one object
abbrev pub IsOfSet : Scope → Type 0
IsOfSet scope = (scope ≡ All) ⊎ (scope ≡ Any)

one_of_set : IsOfSet One → ⊥
one_of_set (inl e) = absurd (cc e)
one_of_set (inr e) = absurd (cc e)

-- a test too many
pub test_too_many : (scope : Scope) (depth tests : ℕ) (t : Piece) (old new : List Piece) → old ≡ t ∷ new → SeesKind (first_of scope) old → nat_lt tests MAX_TESTS ≡ false
    → Refuses (Unit' depth tests) old (TooMany t.at)
test_too_many One depth tests t old new e sees full = let kind = seen Name t old new e sees in λ g more k. rw (e, kind, full) refl
test_too_many All depth tests t old new e sees full = let kind = seen AllIn t old new e sees in λ g more k. rw (e, kind, full) refl
test_too_many Any depth tests t old new e sees full = let kind = seen AnyIn t old new e sees in λ g more k. rw (e, kind, full) refl

-- one object is asked
pub object_asked : (scope : Scope) (depth tests : ℕ) (t : Piece) (w : List ℕ) (old new : List Piece) → scope ≡ One → old ≡ t ∷ new → SeesKind (first_of scope) old → nat_lt tests MAX_TESTS ≡ true → w ≡ name t
    → Trail (Unit' depth tests) (P Senses ∷ P StateLists ∷ []) (asks_part scope w tests) old new
object_asked One depth tests t w old new one e sees room is = let kind = seen Name t old new e sees in λ g more k. rw (e, kind, is, room) refl
object_asked All depth tests t w old new one e sees room is = absurd (cc one)
object_asked Any depth tests t w old new one e sees room is = absurd (cc one)

-- the word of a set is there, and then a name
set_begun : (scope : Scope) (depth tests : ℕ) (t : Piece) (old new : List Piece) → IsOfSet scope → old ≡ t ∷ new → SeesKind (first_of scope) old → nat_lt tests MAX_TESTS ≡ true
    → Trail (Unit' depth tests) (B Name ∷ P Senses ∷ P StateLists ∷ []) (needs Name Fine (λ n. asks_part scope (name n) tests)) old new
set_begun One depth tests t old new set e sees room = absurd (one_of_set set)
set_begun All depth tests t old new set e sees room = let kind = seen AllIn t old new e sees in λ g more k. rw (e, kind, room) refl
set_begun Any depth tests t old new set e sees room = let kind = seen AnyIn t old new e sees in λ g more k. rw (e, kind, room) refl

-- a set is asked
pub set_asked : (scope : Scope) (depth tests : ℕ) (t n : Piece) (w : List ℕ) (old mid new : List Piece) → IsOfSet scope → old ≡ t ∷ mid → SeesKind (first_of scope) old → nat_lt tests MAX_TESTS ≡ true
    → Taken Name n mid new → w ≡ name n → Trail (Unit' depth tests) (P Senses ∷ P StateLists ∷ []) (asks_part scope w tests) old new
set_asked scope depth tests t n w old mid new set e sees room named is =
    let begun = set_begun scope depth tests t old mid set e sees room in
    rw is (token_read (Unit' depth tests) Name Fine (P Senses ∷ P StateLists ∷ []) (λ m. asks_part scope (name m) tests) n old mid new begun refl named)

-- no name is behind the word of a set
pub set_refused : (scope : Scope) (depth tests : ℕ) (t : Piece) (old mid new : List Piece) (e : Stop) → IsOfSet scope → old ≡ t ∷ mid → SeesKind (first_of scope) old → nat_lt tests MAX_TESTS ≡ true
    → ReadsToken Name mid new (Err e) → Stops (Unit' depth tests) old e
set_refused scope depth tests t old mid new e set first sees room none =
    token_refused (Unit' depth tests) Name Fine (P Senses ∷ P StateLists ∷ []) (λ m. asks_part scope (name m) tests) old mid new e (set_begun scope depth tests t old mid set first sees room) none

-- a test was read
pub test_read : (scope : Scope) (depth tests : ℕ) (w : List ℕ) (negated : Bool) (states : List (List ℕ)) (x : CondData) (old u v new : List Piece)
    → Trail (Unit' depth tests) (P Senses ∷ P StateLists ∷ []) (asks_part scope w tests) old u → Passes Sense negated u v → Passes StateList states v new
    → x ≡ test (record { scope = scope; name = w; negated = negated; states = states }) → Passes (Unit' depth tests) (record { formula = x; count = tests + 1 }) old new
test_read scope depth tests w negated states x old u v new a b d is g more k = a g more k ∙ b g _ _ ∙ rw is (d g _ _)

-- what a test asks is refused
pub sense_refused : (scope : Scope) (depth tests : ℕ) (w : List ℕ) (old u : List Piece) (e : Stop)
    → Trail (Unit' depth tests) (P Senses ∷ P StateLists ∷ []) (asks_part scope w tests) old u → Stops Sense u e → Stops (Unit' depth tests) old e
sense_refused scope depth tests w old u stop.Memory a b = tt
sense_refused scope depth tests w old u (stop.Fault f) a b = λ g more k. a g more k ∙ b g _ _

-- the states of a test are refused
pub states_refused : (scope : Scope) (depth tests : ℕ) (w : List ℕ) (negated : Bool) (old u v : List Piece) (e : Stop)
    → Trail (Unit' depth tests) (P Senses ∷ P StateLists ∷ []) (asks_part scope w tests) old u → Passes Sense negated u v → Stops StateList v e → Stops (Unit' depth tests) old e
states_refused scope depth tests w negated old u v stop.Memory a b d = tt
states_refused scope depth tests w negated old u v (stop.Fault f) a b d = λ g more k. a g more k ∙ b g _ _ ∙ d g _ _
