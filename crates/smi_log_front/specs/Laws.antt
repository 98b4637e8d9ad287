-- The laws of the texts of fronts.
use Rattle.std.specs.Prelude.{◌≡◌, ◌≢◌, ℕ, List, [], ◌∷◌, ◌++◌}
use Rattle.sml_text.specs.Tokens.{Each}
use Rattle.sml_domain.specs.Domain.{Domain}
use Rattle.sml_domain.specs.Sound.{IsSound}
use Rattle.smi_journal.specs.HasText.{HasNames}
use Rattle.smi_carried.specs.Pieces.{is_other_byte}
use Rattle.smi_log_front.specs.Front.{FrontView}
use Rattle.smi_log_front.specs.FrontText.{front_begin, front_text}
use Rattle.smi_log_front.specs.Faults.{EndIsBad, IsBadInFront}
use Rattle.smi_log_front.specs.Suits.{FrontIsHeld, FrontSuits}

-- fronts that suit the domain and stand in front of one text are one, and so is what follows them
abbrev pub OneFront : Type 0
OneFront = (d : Domain) (f g : FrontView) (more others : List ℕ) → IsSound d → HasNames d → FrontSuits d f →
    FrontSuits d g → FrontIsHeld f → FrontIsHeld g → front_text d f ++ more ≡ front_text d g ++ others →
    (f ≡ g) × (more ≡ others)

-- no line is bad of a front that suits the domain
abbrev pub NoneIsBadInFront : Type 0
NoneIsBadInFront = (d : Domain) (f : FrontView) (more : List ℕ) (n : ℕ) → IsSound d → HasNames d → FrontSuits d f →
    FrontIsHeld f → IsBadInFront d (front_text d f ++ more) n → ⊥

-- a line: it ends with its only line feed
pub record IsOneLine (line : List ℕ) : Type 0 where
  pub words : List ℕ
  pub each : Each (is_other_byte 10) words
  pub is : line ≡ words ++ 10 ∷ []

-- where all lines of a front but the last were read, no front that suits the domain goes on with the line that follows
abbrev pub NoneGoesOn : Type 0
NoneGoesOn = (d : Domain) (text : List ℕ) (n : ℕ) (b : EndIsBad d text n) (f : FrontView) (line more others : List ℕ) →
    IsSound d → HasNames d → FrontSuits d f → FrontIsHeld f → IsOneLine line → b.rest ≡ line ++ more →
    front_text d f ≢ (front_begin d b.front ++ line) ++ others
