-- The fronts that suit a domain.
use Rattle.std.specs.Prelude.{◌≡◌, ◌≤◌, ◌<◌, ◌^◌, ◌&&◌, ℕ, suc, Bool, true, List, [], ◌∷◌, All, nat_le}
use Rattle.sml_domain.specs.Domain.{Domain}
use Rattle.smi_journal.specs.HasText.{is_object_number}
use Rattle.sml_outset.specs.Suits.{Suits}
use Rattle.smi_outset_text.specs.Reading.{IsHeldOutset}
use Rattle.smi_carried.specs.Suits.{CarriedSuits}
use Rattle.smi_carried.specs.Reading.{CarriedIsHeld}
use Rattle.smi_log_front.specs.declared.front.FrontKill.{FrontKill}
use Rattle.smi_log_front.specs.Front.{FrontView}
use Rattle.smi_log_front.specs.Sums.{is_log_sum}

-- whether the object is one of the domain's from a number on
abbrev pub is_kill_from : Domain → ℕ → FrontKill → Bool
is_kill_from d n x = nat_le n x.object && is_object_number d x.object

-- whether all are, in their order, and none twice
abbrev pub are_kills_from : Domain → ℕ → List FrontKill → Bool
are_kills_from d n [] = true
are_kills_from d n (x ∷ xs) = is_kill_from d n x && are_kills_from d (suc x.object) xs

-- a front suits a domain
pub record FrontSuits (d : Domain) (f : FrontView) : Type 0 where
  pub of_domain : is_log_sum f.domain_sum ≡ true
  pub outset : Suits d f.outset
  pub carried : CarriedSuits d f.carried
  pub kills : are_kills_from d 0 f.kills ≡ true
  pub after_log : is_log_sum f.log_sum ≡ true

-- there is a session of the number
pub record IsHeldSession (k : ℕ) : Type 0 where
  pub least : 1 ≤ k
  pub most : k ≤ 8

-- it is so of who kills
abbrev pub KillIsHeld : FrontKill → Type 0
KillIsHeld x = IsHeldSession x.session

-- all numbers are those that the program holds
pub record FrontIsHeld (f : FrontView) : Type 0 where
  pub capacity : f.capacity < 2 ^ 64
  pub outset : IsHeldOutset f.outset
  pub carried : CarriedIsHeld f.carried
  pub kills : All KillIsHeld f.kills
