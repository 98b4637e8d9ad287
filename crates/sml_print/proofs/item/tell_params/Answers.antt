use Rattle.std.proofs.Common.{vec_len}
use Rattle.sml_text.proofs.Writes.{told_as}
use Rattle.sml_tree.specs.Content.{class_param_content}
use Rattle.sml_print.proofs.Tolds.{params_some}
use Rattle.sml_print.proofs.Tolds.{then_told}
use Rattle.sml_print.proofs.item.tell_params.Goals as goal

pub returns-clause-told : goal.returns-clause-told
returns-clause-told g c =
    told_as _ _ _ _ _ _ (then_told c.tell.ensures.told (then_told c.tell_class_params.ensures.told c.tell-2.ensures.told))
    (params_some class_param_content c.args.params.now.items (vec_len c.args.params.now) c.args.params.now.ok.0 c.if-is_empty.ensures)
