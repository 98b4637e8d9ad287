-- Which members the sets of the new domain have.
use Rattle.std.specs.Prelude.{ℕ, List, [], ◌++◌, Option, None, Some, get_or, is_some, length, map, nat_eq, if◌then◌else◌}
use Rattle.std.specs.List.{filter_map, list_any, range_with_len}
use Rattle.std.specs.Option.{option_and_then}
use Rattle.sml_domain.specs.Domain.{Domain}
use Rattle.sml_domain.specs.Lookups.{may_at, members_at}
use Rattle.smi_front_moved.specs.Moving.{MovingView, is_object_now, was_object, was_set}

-- an object, if a set may come to have it
abbrev pub if_may_have : Domain → ℕ → ℕ → Option ℕ
if_may_have e set o = if list_any (nat_eq o) (may_at e set) then Some o else None

-- a member of the old domain as one of a set of the new domain
abbrev pub member_as : MovingView → ℕ → ℕ → Option ℕ
member_as m set p = option_and_then (if_may_have m.new set) (is_object_now m p)

-- an object of the new domain that the old one does not have
abbrev pub if_new_object : MovingView → ℕ → Option ℕ
if_new_object m o = if is_some (was_object m o) then None else Some o

-- the members that a set of the old domain has
abbrev pub members_before : MovingView → ℕ → List ℕ
members_before m q = get_or m.front.outset.members q []

-- the members of a set that had these: those of them that it may have, in their order, and after them its declared ones
-- that are new objects
abbrev pub members_going_on : MovingView → ℕ → List ℕ → List ℕ
members_going_on m set before =
    filter_map (member_as m set) before ++ filter_map (if_new_object m) (members_at m.new set)

-- those of a set that was one of the old domain, or is new and has its declared ones
abbrev pub members_from : MovingView → ℕ → Option ℕ → List ℕ
members_from m set None = members_at m.new set
members_from m set (Some q) = members_going_on m set (members_before m q)

-- those of a set of the new domain
abbrev pub members_moved : MovingView → ℕ → List ℕ
members_moved m set = members_from m set (was_set m set)

-- those of all sets
abbrev pub all_members_moved : MovingView → List (List ℕ)
all_members_moved m = map (members_moved m) (range_with_len 0 (length m.new.groups))
