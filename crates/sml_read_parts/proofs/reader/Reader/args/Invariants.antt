use Rattle.std.proofs.Common.{◌≤◌, ◌++◌, length, map, vec_len}
use Rattle.sml_tree.specs.declared.token_kind.TokenKind.TheVariants.{CloseBracket}
use Rattle.sml_tree.specs.Content.{passed_content}
use Rattle.sml_tree.specs.Form.{ArgList, MorePassedArg}
use Rattle.sml_read_parts.specs.Lists.{LeadsToClosed}
use Rattle.sml_read_parts.proofs.reader.Reader.args.Given as goal
use Rattle.sml_tree.specs.declared.limits.TheConstants.{MAX_ARGUMENTS}

-- what was read is before what is left
abbrev pub invariant-more : goal.invariant-more
invariant-more g l =
    (length l.self ≤ length l.fn.self) × (vec_len l.args ≤ MAX_ARGUMENTS) × LeadsToClosed ArgList (MorePassedArg (vec_len l.args)) CloseBracket (λ v. map passed_content l.args.items ++ v) l.fn.self l.self

abbrev pub decreases-more : goal.decreases-more
decreases-more g l = length l.self
