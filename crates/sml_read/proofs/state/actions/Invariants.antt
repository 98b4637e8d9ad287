use Rattle.std.proofs.Common.{◌≤◌, ◌++◌, length, map, vec_len}
use Rattle.sml_tree.specs.Content.{action_content}
use Rattle.sml_tree.specs.Form.{Action}
use Rattle.sml_read_parts.specs.Reads.{LeadsOn}
use Rattle.sml_read.proofs.state.actions.Given as goal
use Rattle.sml_tree.specs.declared.limits.TheConstants.{MAX_ACTIONS}

-- what was read is before what is left
abbrev pub invariant-more : goal.invariant-more
invariant-more g l =
    (length l.reader ≤ length l.fn.reader) × (vec_len l.actions ≤ MAX_ACTIONS) × LeadsOn (Action 0) (Action (vec_len l.actions)) (λ v. map action_content l.actions.items ++ v) l.fn.reader l.reader

abbrev pub decreases-more : goal.decreases-more
decreases-more g l = length l.reader
