-- How what goes along is read from the front of a text.
use Rattle.std.specs.Prelude.{◌≡◌, ◌≤◌, ℕ, List, ◌++◌, All, length}
use Rattle.sml_domain.specs.Domain.{Domain}
use Rattle.sml_domain.specs.Sound.{IsSound}
use Rattle.smi_journal.specs.HasText.{HasNames}
use Rattle.smi_carried.specs.Carried.{CarriedView}
use Rattle.smi_carried.specs.CarriedText.{carried_text}
use Rattle.smi_carried.specs.Counts.{CountsAreHeld}
use Rattle.smi_carried.specs.Onces.{OnceIsHeld}
use Rattle.smi_carried.specs.Suits.{CarriedSuits}

-- all numbers have 64 bits
pub record CarriedIsHeld (c : CarriedView) : Type 0 where
  pub counts : All CountsAreHeld c.counts
  pub names : All OnceIsHeld c.names

-- of all that suits the domain and stands in front of the text, none has a longer text
abbrev pub IsLongest : Domain → List ℕ → CarriedView → Type 0
IsLongest d text c =
    (other : CarriedView) (more : List ℕ) → CarriedSuits d other → CarriedIsHeld other →
    text ≡ carried_text d other ++ more → length (carried_text d other) ≤ length (carried_text d c)

-- what suits a domain has a text that nothing else has which suits it
abbrev pub OneCarried : Type 0
OneCarried =
    (d : Domain) (x y : CarriedView) → IsSound d → HasNames d → CarriedSuits d x → CarriedSuits d y →
    CarriedIsHeld x → CarriedIsHeld y → carried_text d x ≡ carried_text d y → x ≡ y
