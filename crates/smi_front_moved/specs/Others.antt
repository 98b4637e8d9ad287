-- What the names of a domain mean in another one.
use Rattle.std.specs.Prelude.{ℕ, Option, None, Some, option_map, slice_get, unwrap_or, if◌then◌else◌}
use Rattle.std.specs.Option.{option_and_then}
use Rattle.sml_domain.specs.Domain.{Domain}
use Rattle.sml_domain.specs.Lookups.{class_at, dead_state, initial_state, is_state_of, name_of_object, object_named, set_named, state_named}
use Rattle.sml_domain.specs.Sound.{name_of_group}

-- the object of another domain that has the name of an object
abbrev pub object_as : Domain → Domain → ℕ → Option ℕ
object_as d e o = option_and_then (object_named e) (option_map name_of_object (slice_get d.objects o))

-- the set of another domain that has the name of a set
abbrev pub set_as : Domain → Domain → ℕ → Option ℕ
set_as d e set = option_and_then (set_named e) (option_map name_of_group (slice_get d.groups set))

-- a state, if it is one of an object
abbrev pub if_state_of : Domain → ℕ → ℕ → Option ℕ
if_state_of e o s = if is_state_of e o s then Some s else None

-- the state of an object of another domain that has the name of a state
abbrev pub state_as : Domain → Domain → ℕ → ℕ → Option ℕ
state_as d e o s = option_and_then (if_state_of e o) (option_and_then (state_named e) (slice_get d.states s))

-- the state in which an object begins as it is declared
abbrev pub declared_state : Domain → ℕ → ℕ
declared_state d o = unwrap_or (option_map initial_state (class_at d o)) 0

-- the state of an object that is dead
abbrev pub declared_dead : Domain → ℕ → ℕ
declared_dead d o = unwrap_or (option_map dead_state (class_at d o)) 0
