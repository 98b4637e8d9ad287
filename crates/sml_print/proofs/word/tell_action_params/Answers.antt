use Rattle.std.proofs.Common.{vec_len}
use Rattle.sml_text.proofs.Writes.{told_as}
use Rattle.sml_tree.specs.Content.{action_param_content}
use Rattle.sml_print.specs.Words.{action_param_text}
use Rattle.sml_print.proofs.Tolds.{bracket_some}
use Rattle.sml_print.proofs.Tolds.{then_told}
use Rattle.sml_print.proofs.word.tell_action_params.Goals as goal

pub returns-clause-told : goal.returns-clause-told
returns-clause-told g c =
    told_as _ _ _ _ _ _ (then_told c.tell.ensures.told (then_told c.tell_action_param_list.ensures.told c.tell-2.ensures.told))
    (bracket_some action_param_text action_param_content c.args.params.now.items (vec_len c.args.params.now) c.args.params.now.ok.0 c.if-is_empty.ensures)
