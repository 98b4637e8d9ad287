-- The lines in front of the rest are held.
use Rattle.std.proofs.Common.{◌≤◌, ◌+◌, length}
use Rattle.smi_run_plan.proofs.Onward.{ReadSoFar}
use Rattle.smi_run_plan.proofs.plan.read_lines.Given as goal

abbrev pub invariant-lines : goal.invariant-lines
invariant-lines l =
    ReadSoFar l.fn.domain l.fn.text l.rest l.number l.draft.sessions.items l.draft.devices.items
    × (l.number + length l.rest ≤ length l.fn.text + 1)

abbrev pub decreases-lines : goal.decreases-lines
decreases-lines l = length l.rest
