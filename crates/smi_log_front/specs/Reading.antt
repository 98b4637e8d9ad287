-- What is read of a front.
use Rattle.std.specs.Prelude.{◌≡◌, ◌≢◌, ◌<◌, ◌^◌, ◌⊎◌, ℕ, true, List, [], ◌∷◌, ◌++◌, codes}
use Rattle.sml_domain.specs.Domain.{Domain}
use Rattle.smi_journal.specs.CallText.{spaced}
use Rattle.smi_journal.specs.EntryText.{session_text}
use Rattle.smi_log_front.specs.declared.front.FrontKill.{FrontKill}
use Rattle.smi_log_front.specs.FrontText.{front_end, front_head, front_kill_line}
use Rattle.smi_log_front.specs.Suits.{IsHeldSession, KillIsHeld, are_kills_from}
use Rattle.smi_log_front.specs.Sums.{is_log_sum}

-- the first line of a front is in front of the text, and this comes after it
pub record HeadIsRead (text sum : List ℕ) (capacity : ℕ) (more : List ℕ) : Type 0 where
  pub digits : is_log_sum sum ≡ true
  pub held : capacity < 2 ^ 64
  pub says : text ≡ front_head sum capacity ++ more

-- it is not
abbrev pub NoHeadIsRead : List ℕ → Type 0
NoHeadIsRead text = (sum : List ℕ) (capacity : ℕ) (more : List ℕ) → HeadIsRead text sum capacity more → ⊥

-- the last line of a front is in front of the text, and this comes after it
pub record EndIsRead (text sum more : List ℕ) : Type 0 where
  pub digits : is_log_sum sum ≡ true
  pub says : text ≡ front_end sum ++ more

-- it is not
abbrev pub NoEndIsRead : List ℕ → Type 0
NoEndIsRead text = (sum more : List ℕ) → EndIsRead text sum more → ⊥

-- a session with a blank before it, and the end of its line
abbrev pub session_words : ℕ → List ℕ
session_words k = spaced (session_text k) ++ codes "\n"

-- these are in front of the text, and this comes after them
pub record SessionIsRead (text : List ℕ) (k : ℕ) (more : List ℕ) : Type 0 where
  pub held : IsHeldSession k
  pub says : text ≡ session_words k ++ more

-- the line that kills an object again is in front of the text, and this comes after it
pub record KillIsRead (d : Domain) (o : ℕ) (text : List ℕ) (x : FrontKill) (more : List ℕ) : Type 0 where
  pub object : x.object ≡ o
  pub held : KillIsHeld x
  pub says : text ≡ front_kill_line d x ++ more

-- it is not
abbrev pub NoKillOf : Domain → ℕ → List ℕ → Type 0
NoKillOf d o text = (x : FrontKill) (more : List ℕ) → KillIsRead d o text x more → ⊥

-- the kill of an object comes to others if its line is in front, and this comes after it; else all stays
abbrev pub TakesKill : Domain → ℕ → List FrontKill → List ℕ → List FrontKill → List ℕ → Type 0
TakesKill d o before text after rest =
    (NoKillOf d o text × (after ≡ before) × (rest ≡ text))
    ⊎ ((x : FrontKill) × KillIsRead d o text x rest × (after ≡ before ++ x ∷ []))

-- no line of a kill that may come after these is in front of the text
abbrev pub NoKillAfter : Domain → List FrontKill → List ℕ → Type 0
NoKillAfter d kills text = (x : FrontKill) (more : List ℕ) → are_kills_from d 0 (kills ++ x ∷ []) ≡ true →
    KillIsHeld x → text ≢ front_kill_line d x ++ more
