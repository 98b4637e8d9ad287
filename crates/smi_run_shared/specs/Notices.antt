-- Which workers are notified when the lock is released, and what a worker does that is not at work.
use Rattle.std.specs.Prelude.{◌≡◌, ◌<◌, ℕ, Bool, true, false}
use Rattle.smi_board.specs.Boards.{BoardView}
use Rattle.smi_board.specs.Waking.{IsQuiet, NothingNext}
use Rattle.smi_run_shared.specs.declared.crew.Notify.{Notify}
use Rattle.smi_run_shared.specs.declared.crew.Notify.TheVariants.{Nobody, One, All}
use Rattle.smi_run_shared.specs.declared.crew.Watch.{Watch}
use Rattle.smi_run_shared.specs.declared.ending.ServeEnd.{ServeEnd}
use Rattle.smi_run_shared.specs.declared.ending.ServeEnd.TheVariants as ends
use Rattle.smi_run_shared.specs.declared.resting.Pause.{Pause}
use Rattle.smi_run_shared.specs.declared.resting.Pause.TheVariants as pause
use Rattle.smi_run_shared.specs.Crews.{CrewView, crew_begun, crew_left, crew_notified, crew_waiting, is_needed, wants_one, watch_next}

-- a worker is wanted: one that waits is to be notified, and something comes next
pub record IsWanted {M : Type 0} (c : CrewView) (b : BoardView M) : Type 0 where
  pub wants : wants_one c ≡ true
  pub next : ¬ NothingNext b

-- one is notified exactly if a worker is wanted, and never all
abbrev pub NotifiesWanted : {M : Type 0} → CrewView → BoardView M → Notify → CrewView → Type 0
NotifiesWanted c b Nobody c2 = (¬ IsWanted c b) × (c2 ≡ c)
NotifiesWanted c b One c2 = IsWanted c b × (c2 ≡ crew_notified One c)
NotifiesWanted c b All c2 = ⊥

-- all are notified exactly if the last session has left, and never one
abbrev pub NotifiesLast : ℕ → CrewView → Notify → CrewView → Type 0
NotifiesLast sessions c Nobody c2 = (0 < sessions) × (c2 ≡ c)
NotifiesLast sessions c One c2 = ⊥
NotifiesLast sessions c All c2 = (sessions ≡ 0) × (c2 ≡ crew_notified All c)

-- all is over: every session has left, and the board is quiet
pub record IsOver {M : Type 0} (sessions : ℕ) (b : BoardView M) : Type 0 where
  pub left : sessions ≡ 0
  pub quiet : IsQuiet b

-- how a run ends: by whether a start was refused since there were as many as may be
abbrev pub end_by : Bool → ServeEnd
end_by true = ends.Limit
end_by false = ends.Quiet

-- one that is not at work begins: it is needed, and something comes next
pub record IsToBegin {M : Type 0} (w : Watch) (c : CrewView) (b : BoardView M) : Type 0 where
  pub needed : is_needed w c ≡ true
  pub next : ¬ NothingNext b

-- what a worker does that is not at work: it ends if all is over, and notifies all; else it begins if it is to; and
-- else it waits
abbrev pub Pauses : {M : Type 0} → ℕ → Bool → BoardView M → Watch → CrewView → Pause → CrewView → Type 0
Pauses sessions limited b w c (pause.Over end n) c2 =
    IsOver sessions b × (end ≡ end_by limited) × (n ≡ All) × (c2 ≡ crew_notified All (crew_left w c))
Pauses sessions limited b w c pause.Begin c2 =
    (¬ IsOver sessions b) × IsToBegin w c b × (c2 ≡ crew_begun w c)
Pauses sessions limited b w c (pause.Sleep w2) c2 =
    (¬ IsOver sessions b) × (¬ IsToBegin w c b) × (w2 ≡ watch_next w c) × (c2 ≡ crew_waiting w c)
