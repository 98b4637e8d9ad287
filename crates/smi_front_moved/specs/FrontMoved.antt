-- The front of a log of the new domain.
use Rattle.std.specs.Prelude.{ℕ, List}
use Rattle.sml_outset.specs.Outset.{Outset}
use Rattle.smi_log_front.specs.Front.{FrontView}
use Rattle.smi_front_moved.specs.Moving.{MovingView}
use Rattle.smi_front_moved.specs.StandsMoved.{stands_moved}
use Rattle.smi_front_moved.specs.MembersMoved.{all_members_moved}
use Rattle.smi_front_moved.specs.CarriedMoved.{carried_moved, kills_moved}

-- how all stands
abbrev pub outset_moved : MovingView → Outset
outset_moved m = record { stands = stands_moved m; members = all_members_moved m }

-- the front, by the SHA-1 of the canonical text of the new domain
abbrev pub front_moved : MovingView → List ℕ → FrontView
front_moved m sum = record {
  domain_sum = sum;
  capacity = m.front.capacity;
  outset = outset_moved m;
  carried = carried_moved m;
  kills = kills_moved m;
  log_sum = m.front.log_sum;
}
