-- The laws of the texts of outsets.
use Rattle.std.specs.Prelude.{◌≡◌, ℕ, List, ◌++◌}
use Rattle.sml_domain.specs.Domain.{Domain}
use Rattle.sml_domain.specs.Sound.{IsSound}
use Rattle.smi_journal.specs.HasText.{HasNames}
use Rattle.sml_outset.specs.Outset.{Outset}
use Rattle.sml_outset.specs.Suits.{Suits}
use Rattle.smi_outset_text.specs.OutsetText.{outset_text}
use Rattle.smi_outset_text.specs.Lines.{IsFirstBadLine, outset_lines}
use Rattle.smi_outset_text.specs.Reading.{IsHeldOutset}

-- no line is bad of an outset that suits the domain
abbrev pub NoneIsBad : Type 0
NoneIsBad = (d : Domain) (x : Outset) (more : List ℕ) (count : ℕ) → IsSound d → HasNames d → Suits d x →
    IsHeldOutset x → IsFirstBadLine d (outset_lines d) (outset_text d x ++ more) count → ⊥

-- outsets that suit the domain and stand in front of one text are one, and so is what follows them
abbrev pub OneOutset : Type 0
OneOutset = (d : Domain) (x y : Outset) (more others : List ℕ) → IsSound d → HasNames d → Suits d x → Suits d y →
    IsHeldOutset x → IsHeldOutset y → outset_text d x ++ more ≡ outset_text d y ++ others →
    (x ≡ y) × (more ≡ others)
