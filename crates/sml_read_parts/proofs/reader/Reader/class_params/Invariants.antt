use Rattle.std.proofs.Common.{◌≤◌, ◌++◌, length, map, vec_len}
use Rattle.sml_tree.specs.Content.{class_param_content}
use Rattle.sml_tree.specs.Form.{ClassParamList, MoreClassParam}
use Rattle.sml_read_parts.specs.Reads.{LeadsOn}
use Rattle.sml_read_parts.proofs.reader.Reader.class_params.Given as goal
use Rattle.sml_tree.specs.declared.limits.TheConstants.{MAX_PARAMETERS}

-- what was read is before what is left
abbrev pub invariant-more : goal.invariant-more
invariant-more g l =
    (length l.self ≤ length l.fn.self) × (vec_len l.params ≤ MAX_PARAMETERS) × LeadsOn ClassParamList (MoreClassParam (vec_len l.params)) (λ v. map class_param_content l.params.items ++ v) l.fn.self l.self

abbrev pub decreases-more : goal.decreases-more
decreases-more g l = length l.self
