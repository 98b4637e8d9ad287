-- Which workers are at work, which are away and which wait, and what each of their steps makes of this.
use Rattle.std.specs.Prelude.{◌==◌, ◌&&◌, ◌||◌, ◌+◌, ◌-◌, ◌*◌, ◌/◌, ◌^◌, ℕ, Bool, true, false, not, nat_lt, nat_le, min, List, Option, Some, None, if◌then◌else◌, slice_index_or, slice_set}
use Rattle.smi_run_shared.specs.declared.crew.Notify.{Notify}
use Rattle.smi_run_shared.specs.declared.crew.Notify.TheVariants as notify
use Rattle.smi_run_shared.specs.declared.crew.Pace.{Pace}
use Rattle.smi_run_shared.specs.declared.crew.Pace.TheVariants as pace
use Rattle.smi_run_shared.specs.declared.crew.Trip.{Trip}
use Rattle.smi_run_shared.specs.declared.crew.Watch.{Watch}
use Rattle.smi_run_shared.specs.declared.crew.TheConstants.{LAST_LOOK, SLOWEST}

-- the workers: how many are at work; how many wait; whether one of those was notified and has not looked since;
-- whether one of those is the guard; how often one went out or came back; how often a guard stepped in; how often one
-- that was notified looked; and how slow what is done for each object is held to be
pub record CrewView : Type 0 where
  pub working : ℕ
  pub waiting : ℕ
  pub is_notified : Bool
  pub is_guarded : Bool
  pub moves : ℕ
  pub relieved : ℕ
  pub arrivals : ℕ
  pub slowness : List ℕ

-- a count with one more: at 2^64 - 1 it stays
abbrev pub one_counted : ℕ → ℕ
one_counted n = min (n + 1) (2 ^ 64 - 1)

-- ---- who is notified

-- a worker that waits is to be notified: somebody waits, nobody was notified, and either nobody is at work or there is
-- no guard
abbrev pub wants_one : CrewView → Bool
wants_one c = nat_lt 0 c.waiting && (not c.is_notified && not (nat_lt 0 c.working && c.is_guarded))

-- the crew once these are notified: of one it is known that it has not looked; of all nothing is known
abbrev pub crew_notified : Notify → CrewView → CrewView
crew_notified notify.Nobody c = c
crew_notified notify.One c = record c { is_notified = true }
crew_notified notify.All c = record c { is_notified = false }

-- ---- trips

-- how slow what is done for an object is held to be: 0 for a moment
abbrev pub slowness_at : CrewView → ℕ → ℕ
slowness_at c o = slice_index_or c.slowness o 0

-- whether it takes more than a moment
abbrev pub is_slow : CrewView → ℕ → Bool
is_slow c o = nat_lt 0 (slowness_at c o)

-- one goes out for an object: for a slow one it leaves its place, and else it counts as being at work
abbrev pub crew_out : ℕ → CrewView → CrewView
crew_out o c = record c {
  moves = one_counted c.moves;
  working = if is_slow c o then c.working - 1 else c.working;
}

-- its trip, before it is known whether another was notified for it
abbrev pub trip_out : ℕ → CrewView → Trip
trip_out o c = record {
  object = o;
  is_away = is_slow c o;
  is_another_notified = false;
  relieved = c.relieved;
  arrivals = c.arrivals;
}

-- one that comes back from a trip has no place: it left it, or a guard stepped in meanwhile
abbrev pub has_no_place : Trip → CrewView → Bool
has_no_place t c = t.is_away || not (t.relieved == c.relieved)

-- a trip for a slow object was brief after all: its worker had to wait for the lock, or another was notified for it
-- and nobody that was notified has looked since
abbrev pub was_brief : Trip → Bool → CrewView → Bool
was_brief t is_crowded c = is_crowded || (t.is_another_notified && t.arrivals == c.arrivals)

-- what a trip that cost its worker the place tells of its object
abbrev pub pace_of : Trip → Bool → CrewView → Pace
pace_of t is_crowded c =
    if not t.is_away then pace.Stuck
    else if was_brief t is_crowded c then pace.Brief
    else if t.is_another_notified then pace.Long
    else pace.Unknown

-- how slow an object is held to be that was so slow, by what a trip tells
abbrev pub slowness_by : Pace → ℕ → ℕ
slowness_by pace.Brief s = s - 1
slowness_by pace.Long s = min (s + 1) SLOWEST
slowness_by pace.Stuck s = SLOWEST
slowness_by pace.Unknown s = s

-- one comes back: without a place it takes one, and its object is held to be as slow as its trip tells
abbrev pub crew_back : Trip → Bool → CrewView → CrewView
crew_back t is_crowded c = if has_no_place t c
    then record c {
      moves = one_counted c.moves;
      working = one_counted c.working;
      slowness = slice_set c.slowness t.object (slowness_by (pace_of t is_crowded c) (slowness_at c t.object));
    }
    else record c { moves = one_counted c.moves }

-- one that comes back may be one too many: it had to wait for the lock, and for its object it will be out for a moment
-- only
abbrev pub is_spare_after : Trip → Bool → CrewView → Bool
is_spare_after t is_crowded c =
    is_crowded && (if t.is_away then nat_le (slowness_at c t.object) 1 else t.relieved == c.relieved)

-- it makes way where another is at work
abbrev pub makes_way : Bool → CrewView → Bool
makes_way is_spare c = is_spare && nat_lt 1 c.working

-- one is at work no more
abbrev pub crew_without_one : CrewView → CrewView
crew_without_one c = record c { working = c.working - 1 }

-- ---- waiting

-- a watch that saw `moves` moves has seen them all
abbrev pub is_up_to_date : Option ℕ → ℕ → Bool
is_up_to_date None moves = false
is_up_to_date (Some seen) moves = seen == moves

-- a guard is needed: nobody went out or came back since it looked last
abbrev pub is_relief : Watch → CrewView → Bool
is_relief w c = w.is_guard && is_up_to_date w.seen c.moves

-- one that waits is needed, where something is to be done: nobody is at work, or it is a guard that is needed
abbrev pub is_needed : Watch → CrewView → Bool
is_needed w c = c.working == 0 || is_relief w c

-- another than the one with this watch is the guard
abbrev pub is_another_guard : Watch → CrewView → Bool
is_another_guard w c = c.is_guarded && not w.is_guard

-- one that waited begins to work; those who were at work have no place then
abbrev pub crew_begun : Watch → CrewView → CrewView
crew_begun w c = record c {
  is_guarded = is_another_guard w c;
  relieved = if nat_lt 0 c.working then one_counted c.relieved else c.relieved;
  working = 1;
}

-- one that waited ends
abbrev pub crew_left : Watch → CrewView → CrewView
crew_left w c = record c { is_guarded = is_another_guard w c }

-- one that waits on is the guard: somebody is at work, and there is no guard, or it was the guard and they get on
abbrev pub is_guard_next : Watch → CrewView → Bool
is_guard_next w c =
    nat_lt 0 c.working && (if w.is_guard then not (is_up_to_date w.seen c.moves) else not c.is_guarded)

-- one waits
abbrev pub crew_waiting : Watch → CrewView → CrewView
crew_waiting w c = record c {
  is_guarded = is_guard_next w c || is_another_guard w c;
  waiting = one_counted c.waiting;
}

-- for how many microseconds it sleeps at most: one who was the guard and saw others get on, twice as long as before, up
-- to the last length of a look
abbrev pub micros_next : Watch → CrewView → ℕ
micros_next w c =
    if w.is_guard && not (is_up_to_date w.seen c.moves) then min w.micros (LAST_LOOK / 2) * 2 else w.micros

-- its watch: it has seen all moves
abbrev pub watch_next : Watch → CrewView → Watch
watch_next w c = record { is_guard = is_guard_next w c; seen = Some c.moves; micros = micros_next w c }

-- one that waited looks, and so does one that was notified
abbrev pub crew_looked : CrewView → CrewView
crew_looked c = record c {
  waiting = c.waiting - 1;
  is_notified = false;
  arrivals = if c.is_notified then one_counted c.arrivals else c.arrivals;
}

-- its watch then: one that was notified has not slept its time, so it saw nothing of who gets on
abbrev pub watch_looked : Watch → CrewView → Watch
watch_looked w c = if c.is_notified then record w { seen = None } else w
