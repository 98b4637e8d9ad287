-- How a request that is made once is asked for, marked and answered.
use Rattle.std.specs.Prelude.{◌≡◌, ◌≢◌, ◌<◌, ◌^◌, ◌==◌, ◌||◌, ◌&&◌, ℕ, Bool, true, false, List, [], ◌∷◌, ◌++◌, length, codes, nat_eq, nat_le, not}
use Rattle.std.specs.Char.{is_ascii_uppercase}
use Rattle.std.specs.List.{list_all, starts_with}
use Rattle.sml_text.specs.Bytes.{is_digit}
use Rattle.sml_text.specs.Decimal.{decimal_text}
use Rattle.sml_text.specs.declared.limits.TheConstants.{LONGEST_NAME}

-- no byte is a blank
abbrev pub HasNoBlank : List ℕ → Type 0
HasNoBlank [] = Unit {0}
HasNoBlank (b ∷ bs) = (b ≢ 32) × HasNoBlank bs

-- what may be in a name: an upper-case letter, a digit or `_`
abbrev pub is_once_byte : ℕ → Bool
is_once_byte c = is_ascii_uppercase c || (is_digit c || c == 95)

-- a name of those who ask: 1 to 64 such bytes
abbrev pub is_once_name : List ℕ → Bool
is_once_name name = nat_le 1 (length name) && (nat_le (length name) LONGEST_NAME && list_all is_once_byte name)

-- once NAME NUMBER REQUEST, with one blank between them
abbrev pub asked_text : List ℕ → ℕ → List ℕ → List ℕ
asked_text name number request = codes "once" ++ 32 ∷ (name ++ 32 ∷ (decimal_text number ++ 32 ∷ request))

-- a line asks for a request once, under a name and a number
pub record IsAsked (line name : List ℕ) (number : ℕ) (request : List ℕ) : Type 0 where
  pub named : is_once_name name ≡ true
  pub small : number < 2 ^ 64
  pub text : line ≡ asked_text name number request

-- REQUEST ! once NAME NUMBER: the line that the log has of it
abbrev pub marked_text : List ℕ → List ℕ → ℕ → List ℕ
marked_text request name number = (request ++ codes " ! once") ++ 32 ∷ (name ++ 32 ∷ decimal_text number)

-- a line ends with the mark of a name and a number
pub record IsMarked (line name : List ℕ) (number : ℕ) : Type 0 where
  pub request : List ℕ
  pub named : is_once_name name ≡ true
  pub small : number < 2 ^ 64
  pub text : line ≡ marked_text request name number

-- a line ends with no mark
abbrev pub IsUnmarked : List ℕ → Type 0
IsUnmarked line = (name : List ℕ) (number : ℕ) → IsMarked line name number → ⊥

-- a byte that may stand in a line from outside: a tab, a carriage return, or none below a blank
abbrev pub is_outside_byte : ℕ → Bool
is_outside_byte c = nat_le 32 c || (c == 9 || c == 13)

-- a line that no line from outside may be: one that begins as the first line of a log does, or one with another byte
abbrev pub is_barred_line : List ℕ → Bool
is_barred_line line = starts_with nat_eq line (codes "! smirun live ") || not (list_all is_outside_byte line)

-- once NAME NUMBER ANSWER: how the answer is told, whose line feed is its own
abbrev pub told_text : List ℕ → ℕ → List ℕ → List ℕ
told_text name number answer = codes "once" ++ 32 ∷ (name ++ 32 ∷ (decimal_text number ++ 32 ∷ answer))
