use Rattle.std.proofs.Common.{◌≤◌, ◌++◌, length, map, vec_len}
use Rattle.sml_tree.specs.declared.token_kind.TokenKind.TheVariants.{CloseBracket}
use Rattle.sml_tree.specs.Content.{action_param_content}
use Rattle.sml_tree.specs.Form.{ActionParamList, MoreActionParam}
use Rattle.sml_read_parts.specs.Lists.{LeadsToClosed}
use Rattle.sml_read_parts.proofs.reader.Reader.action_params.Given as goal
use Rattle.sml_tree.specs.declared.limits.TheConstants.{MAX_PARAMETERS}

-- what was read is before what is left
abbrev pub invariant-more : goal.invariant-more
invariant-more g l =
    (length l.self ≤ length l.fn.self) × (vec_len l.params ≤ MAX_PARAMETERS) × LeadsToClosed ActionParamList (MoreActionParam (vec_len l.params)) CloseBracket (λ v. map action_param_content l.params.items ++ v) l.fn.self l.self

abbrev pub decreases-more : goal.decreases-more
decreases-more g l = length l.self
