use Rattle.std.proofs.Common.{length, ◌-◌, ◌≤◌, take}
use Rattle.sml_text.specs.Bytes.{no_line_feed}
use Rattle.sml_text.specs.Tokens.{Each}
use Rattle.smi_outset_text.proofs.pieces.bytes_before_feed.Given as goal

abbrev pub invariant-loop-count : goal.invariant-loop-count
invariant-loop-count l = (l.count ≤ length l.text) × Each no_line_feed (take l.count l.text)

abbrev pub decreases-loop-count : goal.decreases-loop-count
decreases-loop-count l = length l.text - l.count
