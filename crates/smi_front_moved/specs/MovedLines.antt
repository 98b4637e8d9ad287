-- What is told where a log goes on in another domain: what that does not have, in the order of the old outset, what it
-- has more, what it declares and does not get, and which names are forgotten.
use Rattle.std.specs.Prelude.{ℕ, Bool, true, false, ◌||◌, not, List, [], ◌++◌, Option, None, Some, find, flat_map, get_or, is_some, length, nat_eq, slice_get, if◌then◌else◌}
use Rattle.std.specs.List.{filter_map, list_any, range_with_len}
use Rattle.std.specs.Option.{option_and_then, option_map_or}
use Rattle.sml_tree.specs.Kinds.{same_kind}
use Rattle.sml_domain.specs.Domain.{Domain, Param}
use Rattle.sml_domain.specs.Fits.{names_param}
use Rattle.sml_domain.specs.Lookups.{class_params_at, members_at}
use Rattle.sml_outset.specs.Outset.{Stand}
use Rattle.smi_log_front.specs.declared.front.FrontKill.{FrontKill}
use Rattle.smi_front_moved.specs.declared.lines.MovedLine.{MovedLine}
use Rattle.smi_front_moved.specs.declared.lines.MovedLine.TheVariants.{GoneState, GoneParam, GoneMember, GoneKill, NewObject, NewSet, NotMember, Forgot}
use Rattle.smi_front_moved.specs.Others.{set_as, state_as}
use Rattle.smi_front_moved.specs.Moving.{MovingView, is_object_now, front_killer, was_object, was_set}
use Rattle.smi_front_moved.specs.StandsMoved.{params_of_stand}
use Rattle.smi_front_moved.specs.MembersMoved.{member_as, members_before, members_moved}

-- a line, unless it is so
abbrev pub line_unless : Bool → MovedLine → Option MovedLine
line_unless b line = if b then None else Some line

-- ---- what is gone

-- whether the state of an object of the old domain goes to one of the new domain
abbrev pub state_stays_at : MovingView → ℕ → ℕ → ℕ → Bool
state_stays_at m p s o =
    is_some (front_killer m.front.kills p) || (get_or m.anew p false || is_some (state_as m.old m.new o s))

-- whether the new domain has the object, and the state, if that matters
abbrev pub state_stays : MovingView → ℕ → ℕ → Bool
state_stays m p s = option_map_or (state_stays_at m p s) (is_object_now m p) false

-- the line of a state that is gone
abbrev pub gone_state_of : MovingView → ℕ → Stand → Option MovedLine
gone_state_of m p x = line_unless (state_stays m p x.state) (GoneState p x.state)

-- that of an object of the old domain
abbrev pub gone_state : MovingView → ℕ → Option MovedLine
gone_state m p = option_and_then (gone_state_of m p) (slice_get m.front.outset.stands p)

-- those of all
abbrev pub gone_states : MovingView → List MovedLine
gone_states m = filter_map (gone_state m) (range_with_len 0 (length m.front.outset.stands))

-- whether a parameter has the kind
abbrev pub has_kind_of : Param → Param → Bool
has_kind_of given p = same_kind given.kind p.kind

-- whether an object has a parameter of the name and the kind
abbrev pub takes_param : Domain → Param → ℕ → Bool
takes_param e given o = option_map_or (has_kind_of given) (find (names_param given.name) (class_params_at e o)) false

-- whether the new domain has a parameter of an object of the old one, or that begins anew
abbrev pub param_stays : MovingView → ℕ → Param → Bool
param_stays m p given = get_or m.anew p false || option_map_or (takes_param m.new given) (is_object_now m p) false

-- the parameters of an object of the old domain
abbrev pub params_in_front : MovingView → ℕ → List Param
params_in_front m p = option_map_or params_of_stand (slice_get m.front.outset.stands p) []

-- the line of a parameter that is gone
abbrev pub gone_param_of : MovingView → ℕ → ℕ → Param → Option MovedLine
gone_param_of m p i given = line_unless (param_stays m p given) (GoneParam p i)

-- that of the parameter at a place
abbrev pub gone_param : MovingView → ℕ → ℕ → Option MovedLine
gone_param m p i = option_and_then (gone_param_of m p i) (slice_get (params_in_front m p) i)

-- those of an object
abbrev pub gone_params_of : MovingView → ℕ → List MovedLine
gone_params_of m p = filter_map (gone_param m p) (range_with_len 0 (length (params_in_front m p)))

-- those of all objects
abbrev pub gone_params : MovingView → List MovedLine
gone_params m = flat_map (gone_params_of m) (range_with_len 0 (length m.front.outset.stands))

-- the line of a member that is gone: a set of the new domain may not have it
abbrev pub gone_member_from : MovingView → ℕ → ℕ → ℕ → Option MovedLine
gone_member_from m q set p = line_unless (is_some (member_as m set p)) (GoneMember q p)

-- or the new domain does not have the set
abbrev pub gone_with_set : ℕ → ℕ → Option MovedLine
gone_with_set q p = Some (GoneMember q p)

-- those of a set, by that of the new domain, if there is one
abbrev pub gone_members_by : MovingView → ℕ → Option ℕ → List MovedLine
gone_members_by m q None = filter_map (gone_with_set q) (members_before m q)
gone_members_by m q (Some set) = filter_map (gone_member_from m q set) (members_before m q)

-- those of a set
abbrev pub gone_members_of : MovingView → ℕ → List MovedLine
gone_members_of m q = gone_members_by m q (set_as m.old m.new q)

-- those of all sets
abbrev pub gone_members : MovingView → List MovedLine
gone_members m = flat_map (gone_members_of m) (range_with_len 0 (length m.front.outset.members))

-- the line of a kill that is gone: the new domain does not have the object
abbrev pub gone_kill : MovingView → FrontKill → Option MovedLine
gone_kill m x = line_unless (is_some (is_object_now m x.object)) (GoneKill x.object)

-- those of all kills
abbrev pub gone_kills : MovingView → List MovedLine
gone_kills m = filter_map (gone_kill m) m.front.kills

-- ---- what is new

-- the line of an object that is new
abbrev pub new_object : MovingView → ℕ → Option MovedLine
new_object m o = line_unless (is_some (was_object m o)) (NewObject o)

-- those of all
abbrev pub new_objects : MovingView → List MovedLine
new_objects m = filter_map (new_object m) (range_with_len 0 (length m.new.objects))

-- the line of a set that is new
abbrev pub new_set : MovingView → ℕ → Option MovedLine
new_set m set = line_unless (is_some (was_set m set)) (NewSet set)

-- those of all
abbrev pub new_sets : MovingView → List MovedLine
new_sets m = filter_map (new_set m) (range_with_len 0 (length m.new.groups))

-- ---- what is declared and does not come

-- whether an object is new, or one of these
abbrev pub is_new_or_among : MovingView → List ℕ → ℕ → Bool
is_new_or_among m now o = not (is_some (was_object m o)) || list_any (nat_eq o) now

-- the line of a declared member that a set does not get, which has these: an old object
abbrev pub not_member : MovingView → ℕ → List ℕ → ℕ → Option MovedLine
not_member m set now o = line_unless (is_new_or_among m now o) (NotMember set o)

-- those of a set (of a new one none, since it gets its declared members)
abbrev pub not_members_of : MovingView → ℕ → List MovedLine
not_members_of m set = filter_map (not_member m set (members_moved m set)) (members_at m.new set)

-- those of all sets
abbrev pub not_members : MovingView → List MovedLine
not_members m = flat_map (not_members_of m) (range_with_len 0 (length m.new.groups))

-- the line of a name that is forgotten
abbrev pub forgot_name : MovingView → ℕ → Option MovedLine
forgot_name m k = line_unless (not (get_or m.forgotten k false)) (Forgot k)

-- those of all names
abbrev pub forgot_names : MovingView → List MovedLine
forgot_names m = filter_map (forgot_name m) (range_with_len 0 (length m.front.carried.names))

-- ---- all lines

-- those of what is gone
abbrev pub gone_lines : MovingView → List MovedLine
gone_lines m = gone_states m ++ (gone_params m ++ (gone_members m ++ gone_kills m))

-- those of what else is otherwise
abbrev pub other_lines : MovingView → List MovedLine
other_lines m = new_objects m ++ (new_sets m ++ (not_members m ++ forgot_names m))

-- all, in their order
abbrev pub moved_lines : MovingView → List MovedLine
moved_lines m = gone_lines m ++ other_lines m

-- whether a line tells that something is gone
abbrev pub is_gone_line : MovedLine → Bool
is_gone_line (GoneState p s) = true
is_gone_line (GoneParam p i) = true
is_gone_line (GoneMember q p) = true
is_gone_line (GoneKill p) = true
is_gone_line (NewObject o) = false
is_gone_line (NewSet set) = false
is_gone_line (NotMember set o) = false
is_gone_line (Forgot k) = false
