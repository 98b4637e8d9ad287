use Rattle.std.proofs.Common.{length, ◌-◌, ◌≤◌, take}
use Rattle.sml_text.specs.Tokens.{Each}
use Rattle.smi_carried.specs.Pieces.{is_other_byte}
use Rattle.smi_carried.proofs.pieces.bytes_before.Given as goal

abbrev pub invariant-loop-count : goal.invariant-loop-count
invariant-loop-count l = (l.count ≤ length l.text) × Each (is_other_byte l.end) (take l.count l.text)

abbrev pub decreases-loop-count : goal.decreases-loop-count
decreases-loop-count l = length l.text - l.count
