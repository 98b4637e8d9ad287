use Rattle.std.proofs.Common.{◌≤◌, ◌++◌, length, vec_len}
use Rattle.sml_tree.specs.Form.{Members, MoreMember}
use Rattle.sml_read_parts.specs.Reads.{LeadsOn}
use Rattle.sml_read_parts.proofs.reader.Reader.members.Given as goal
use Rattle.sml_tree.specs.declared.limits.TheConstants.{MAX_MEMBERS}

-- what was read is before what is left
abbrev pub invariant-more : goal.invariant-more
invariant-more g l =
    (length l.self ≤ length l.fn.self) × (vec_len l.members ≤ MAX_MEMBERS) × LeadsOn Members (MoreMember (vec_len l.members)) (λ v. l.members.items ++ v) l.fn.self l.self

abbrev pub decreases-more : goal.decreases-more
decreases-more g l = length l.self
