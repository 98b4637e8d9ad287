use Rattle.std.proofs.Common.{◌≤◌, ◌++◌, length, map, vec_len}
use Rattle.sml_tree.specs.Content.{state_content}
use Rattle.sml_tree.specs.Form.{State}
use Rattle.sml_read_parts.specs.Reads.{LeadsOn}
use Rattle.sml_read.proofs.state.states.Given as goal
use Rattle.sml_tree.specs.declared.limits.TheConstants.{MAX_STATES}

-- what was read is before what is left
abbrev pub invariant-more : goal.invariant-more
invariant-more g l =
    (length l.reader ≤ length l.fn.reader) × (vec_len l.states ≤ MAX_STATES) × LeadsOn (State 0) (State (vec_len l.states)) (λ v. map state_content l.states.items ++ v) l.fn.reader l.reader

abbrev pub decreases-more : goal.decreases-more
decreases-more g l = length l.reader
