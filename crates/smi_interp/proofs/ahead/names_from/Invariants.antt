use Rattle.std.proofs.Common.{◌≡◌, []}
use Rattle.sml_domain.specs.Program.{Nothing}
use Rattle.smi_interp.specs.Ahead.{names_ahead, sets_ahead}
use Rattle.smi_interp.specs.Cursor.{left_in, left_of}
use Rattle.smi_interp.proofs.ahead.names_from.Given as goal

-- the names ahead stay
abbrev pub invariant-ahead : goal.invariant-ahead
invariant-ahead l = record {
  same : names_ahead (left_of l.domain l.at l.later.items) ≡ names_ahead (left_of l.domain l.fn.at l.fn.later.items);
  settled : left_in l.domain l.at ≡ Nothing → l.later.items ≡ [];
}

abbrev pub decreases-ahead : goal.decreases-ahead
decreases-ahead l = sets_ahead (left_of l.domain l.at l.later.items)
