use Rattle.std.proofs.Common.{◌<◌, ◌≤◌, length, map, vec_len}
use Rattle.sml_tree.specs.Content.{waited_content}
use Rattle.sml_read_parts.proofs.Waiting.{Waits}
use Rattle.sml_read_parts.proofs.reader.Reader.waiting.Given as goal
use Rattle.sml_tree.specs.declared.limits.TheConstants.{MAX_WAITED}

-- what was read is before what is left
abbrev pub invariant-more : goal.invariant-more
invariant-more g l =
    (length l.self < length l.fn.self) × (vec_len l.waited ≤ MAX_WAITED) × Waits l.fn.depth (vec_len l.waited) (map waited_content l.waited.items) l.fn.self l.self

abbrev pub decreases-more : goal.decreases-more
decreases-more g l = length l.self
