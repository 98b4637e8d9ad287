-- What goes along into a log of the new domain: counts, the last requests of names, and kills.
use Rattle.std.specs.Prelude.{ℕ, ◌+◌, ◌-◌, ◌^◌, min, Bool, true, false, List, Option, None, get_or, is_some, length, map, nat_eq, not, option_map, slice_get, if◌then◌else◌}
use Rattle.std.specs.List.{filter_map, range_with_len}
use Rattle.std.specs.Option.{option_and_then, option_map_or}
use Rattle.smi_carried.specs.declared.carried.CarriedCounts.{CarriedCounts}
use Rattle.smi_carried.specs.declared.carried.CarriedPlace.{CarriedPlace}
use Rattle.smi_carried.specs.Carried.{CarriedView, OnceView}
use Rattle.smi_log_front.specs.declared.front.FrontKill.{FrontKill}
use Rattle.smi_front_moved.specs.Others.{state_as}
use Rattle.smi_front_moved.specs.Moving.{MovingView, is_object_now, front_killer, killer_moved, was_object}
use Rattle.smi_front_moved.specs.StandsMoved.{state_moved, state_on}

-- ---- kills

-- the kill of an object by a session
abbrev pub kill_by : ℕ → ℕ → FrontKill
kill_by o k = record { object = o; session = k }

-- the kill of an object of the new domain, if it is killed again
abbrev pub kill_moved : MovingView → ℕ → Option FrontKill
kill_moved m o = option_map (kill_by o) (killer_moved m o)

-- those of all
abbrev pub kills_moved : MovingView → List FrontKill
kills_moved m = filter_map (kill_moved m) (range_with_len 0 (length m.new.objects))

-- ---- counts

-- one, if it is so
abbrev pub end_if : Bool → ℕ
end_if true = 1
end_if false = 0

-- whether an object of the new domain stands where it stood
abbrev pub stands_still : MovingView → ℕ → ℕ → Bool
stands_still m o p = option_map_or (nat_eq (state_moved m o)) (state_on m o p) false

-- how many ends come to the count of an object: none where it is killed again; else that of its kill, and one where it
-- stands otherwise than it did, so that no version is that of two states
abbrev pub ends_added : MovingView → ℕ → ℕ → ℕ
ends_added m o p =
    if is_some (killer_moved m o) then 0
    else end_if (is_some (front_killer m.front.kills p)) + end_if (not (stands_still m o p))

-- counts to which this number of ends is added, as far as 64 bits go
abbrev pub with_ends : ℕ → CarriedCounts → CarriedCounts
with_ends n c = record { started = c.started; ended = min (c.ended + n) (2 ^ 64 - 1) }

-- nothing was counted
abbrev pub nothing_counted : CarriedCounts
nothing_counted = record { started = 0; ended = 0 }

-- the counts of an object that was one of the old domain
abbrev pub counts_going_on : MovingView → ℕ → ℕ → CarriedCounts
counts_going_on m o p =
    option_map_or (with_ends (ends_added m o p)) (slice_get m.front.carried.counts p) nothing_counted

-- those of an object of the new domain
abbrev pub counts_moved : MovingView → ℕ → CarriedCounts
counts_moved m o = option_map_or (counts_going_on m o) (was_object m o) nothing_counted

-- those of all
abbrev pub all_counts_moved : MovingView → List CarriedCounts
all_counts_moved m = map (counts_moved m) (range_with_len 0 (length m.new.objects))

-- ---- names

-- a place at an object, in a state
abbrev pub place_with : ℕ → ℕ → ℕ → CarriedPlace
place_with version o s = record { object = o; state = s; version = version }

-- a place at an object of the new domain, if that has the state
abbrev pub place_on : MovingView → CarriedPlace → ℕ → Option CarriedPlace
place_on m x o = option_map (place_with x.version o) (state_as m.old m.new o x.state)

-- a place in the new domain, if that has the object and the state
abbrev pub place_moved : MovingView → CarriedPlace → Option CarriedPlace
place_moved m x = option_and_then (place_on m x) (is_object_now m x.object)

-- the last request of a name
abbrev pub once_moved : MovingView → OnceView → OnceView
once_moved m x = record {
  name = x.name;
  number = x.number;
  place = option_and_then (place_moved m) x.place;
  what = x.what;
}

-- that of the name at a place, unless it is forgotten
abbrev pub name_moved : MovingView → ℕ → Option OnceView
name_moved m k =
    if get_or m.forgotten k false then None else option_map (once_moved m) (slice_get m.front.carried.names k)

-- those of all names
abbrev pub names_moved : MovingView → List OnceView
names_moved m = filter_map (name_moved m) (range_with_len 0 (length m.front.carried.names))

-- all that goes along
abbrev pub carried_moved : MovingView → CarriedView
carried_moved m = record { counts = all_counts_moved m; names = names_moved m }
