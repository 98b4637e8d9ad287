-- What goes from a domain to another one: how all stands, but for objects that begin anew and names that are forgotten.
use Rattle.std.specs.Prelude.{ℕ, ◌==◌, Bool, false, List, Option, None, Some, find, get_or, option_map, if◌then◌else◌}
use Rattle.std.specs.Option.{option_and_then}
use Rattle.sml_domain.specs.Domain.{Domain}
use Rattle.smi_log_front.specs.declared.front.FrontKill.{FrontKill}
use Rattle.smi_log_front.specs.Front.{FrontView}
use Rattle.smi_front_moved.specs.Others.{object_as, set_as}

-- the domains, the front of the old one, which of its objects begin anew, and which of its names are forgotten
pub record MovingView : Type 0 where
  pub old : Domain
  pub new : Domain
  pub front : FrontView
  pub anew : List Bool
  pub forgotten : List Bool

-- the object of the old domain that an object of the new one was
abbrev pub was_object : MovingView → ℕ → Option ℕ
was_object m o = object_as m.new m.old o

-- the object of the new domain that an object of the old one is
abbrev pub is_object_now : MovingView → ℕ → Option ℕ
is_object_now m p = object_as m.old m.new p

-- the set of the old domain that a set of the new one was
abbrev pub was_set : MovingView → ℕ → Option ℕ
was_set m set = set_as m.new m.old set

-- an object of the old domain, unless it begins anew
abbrev pub unless_anew : List Bool → ℕ → Option ℕ
unless_anew anew p = if get_or anew p false then None else Some p

-- the object of the old domain that goes on as an object of the new one
abbrev pub goes_on_from : MovingView → ℕ → Option ℕ
goes_on_from m o = option_and_then (unless_anew m.anew) (was_object m o)

-- the session of a kill
abbrev pub session_of_kill : FrontKill → ℕ
session_of_kill x = x.session

-- whether a kill is that of an object
abbrev pub is_kill_at : ℕ → FrontKill → Bool
is_kill_at p x = x.object == p

-- the session that kills an object again by a kill, if it is that of the object
abbrev pub killer_by : FrontKill → ℕ → Option ℕ
killer_by x p = if is_kill_at p x then Some x.session else None

-- the session that kills an object again by these, if one does
abbrev pub front_killer : List FrontKill → ℕ → Option ℕ
front_killer kills p = option_map session_of_kill (find (is_kill_at p) kills)

-- the session that kills an object of the new domain again: the one of the object that goes on
abbrev pub killer_moved : MovingView → ℕ → Option ℕ
killer_moved m o = option_and_then (front_killer m.front.kills) (goes_on_from m o)
