-- What is told of a text that does not begin with a front which suits the domain.
use Rattle.std.specs.Prelude.{◌≡◌, ◌==◌, ◌⊎◌, ◌+◌, ℕ, suc, true, List, [], ◌∷◌, ◌++◌, All, if◌then◌else◌}
use Rattle.sml_domain.specs.Domain.{Domain}
use Rattle.sml_outset.specs.Suits.{Suits}
use Rattle.smi_outset_text.specs.Lines.{IsFirstBadLine, outset_lines}
use Rattle.smi_outset_text.specs.Reading.{IsHeldOutset}
use Rattle.smi_outset_text.specs.OutsetText.{outset_text}
use Rattle.smi_carried.specs.Carried.{CarriedView}
use Rattle.smi_carried.specs.CarriedText.{carried_text}
use Rattle.smi_carried.specs.Reading.{CarriedIsHeld, IsLongest}
use Rattle.smi_carried.specs.Suits.{CarriedSuits}
use Rattle.smi_log_front.specs.declared.fault.FrontFault.{FrontFault}
use Rattle.smi_log_front.specs.declared.fault.FrontFault.TheVariants.{BadLine, Memory}
use Rattle.smi_log_front.specs.declared.front.FrontKill.{FrontKill}
use Rattle.smi_log_front.specs.Front.{FrontView}
use Rattle.smi_log_front.specs.FrontText.{front_begin, front_kills_text}
use Rattle.smi_log_front.specs.Reading.{HeadIsRead, NoEndIsRead, NoHeadIsRead, NoKillAfter}
use Rattle.smi_log_front.specs.Suits.{KillIsHeld, are_kills_from}

-- how many line feeds a text has
abbrev pub line_count : List ℕ → ℕ
line_count [] = 0
line_count (c ∷ cs) = if c == 10 then suc (line_count cs) else line_count cs

-- the first line of a front is not in front of the text
pub record HeadIsBad (text : List ℕ) (n : ℕ) : Type 0 where
  pub none : NoHeadIsRead text
  pub number : n ≡ 1

-- it is, and of the lines of the outset that follow it one is bad
pub record OutsetIsBad (d : Domain) (text : List ℕ) (n : ℕ) : Type 0 where
  pub sum : List ℕ
  pub capacity : ℕ
  pub rest : List ℕ
  pub head : HeadIsRead text sum capacity rest
  pub count : ℕ
  pub bad : IsFirstBadLine d (outset_lines d) rest count
  pub number : n ≡ count + 2

-- the lines of what goes along and of kills that are in front of a text: as many as may be
pub record PastIsRead (d : Domain) (text : List ℕ) (carried : CarriedView) (kills : List FrontKill) (rest : List ℕ)
    : Type 0 where
  pub suits : CarriedSuits d carried
  pub held : CarriedIsHeld carried
  pub longest : IsLongest d text carried
  pub kills_suit : are_kills_from d 0 kills ≡ true
  pub kills_held : All KillIsHeld kills
  pub none : NoKillAfter d kills rest
  pub says : text ≡ (carried_text d carried ++ front_kills_text d kills) ++ rest

-- all lines of a front but the last are in front of the text, as many as may be, and then the last is not
pub record EndIsBad (d : Domain) (text : List ℕ) (n : ℕ) : Type 0 where
  pub front : FrontView
  pub standing : List ℕ
  pub past : List ℕ
  pub rest : List ℕ
  pub head : HeadIsRead text front.domain_sum front.capacity standing
  pub suits : Suits d front.outset
  pub held : IsHeldOutset front.outset
  pub outset : standing ≡ outset_text d front.outset ++ past
  pub read : PastIsRead d past front.carried front.kills rest
  pub none : NoEndIsRead rest
  pub number : n ≡ suc (line_count (front_begin d front))

-- the first line of the text that is not one of a front has this number
abbrev pub IsBadInFront : Domain → List ℕ → ℕ → Type 0
IsBadInFront d text n = HeadIsBad text n ⊎ (OutsetIsBad d text n ⊎ EndIsBad d text n)

-- what a fault says of a text; `Memory` says nothing
abbrev pub FrontFaultIs : Domain → List ℕ → FrontFault → Type 0
FrontFaultIs d text (BadLine n) = IsBadInFront d text n
FrontFaultIs d text Memory = Unit {0}
