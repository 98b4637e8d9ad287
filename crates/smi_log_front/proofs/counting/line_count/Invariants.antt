use Rattle.std.proofs.Common.{◌≡◌, ◌≤◌, take}
use Rattle.smi_log_front.specs.Faults as spec
use Rattle.smi_log_front.proofs.counting.line_count.Given as goal

-- the line feeds before were counted
abbrev pub invariant-loop-byte : goal.invariant-loop-byte
invariant-loop-byte l = (l.count ≡ spec.line_count (take l.byte-index l.text)) × (l.count ≤ l.byte-index)
