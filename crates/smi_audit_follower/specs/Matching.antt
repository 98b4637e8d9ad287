-- The states of readings.
use Rattle.std.specs.Prelude.{ℕ}
use Rattle.sml_domain.specs.Truth.{Reading}

-- the state of a reading
abbrev pub reading_state : Reading → ℕ
reading_state r = r.state
