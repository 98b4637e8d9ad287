use Rattle.std.proofs.Common.{◌∙◌}
use Rattle.sml_tree.specs.Content.{instr_content}
use Rattle.sml_check_faults.proofs.BlockRests.{has_body_if_long}
use Rattle.sml_check_faults.proofs.heads.has_body.Goals as goal

pub returns : goal.returns
returns g c = has_body_if_long instr_content c.args.block.now.instrs.items c.len.result (c.len.ensures ∙ c.args.block.now.instrs.ok.0)
