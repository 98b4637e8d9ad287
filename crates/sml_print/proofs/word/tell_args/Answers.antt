use Rattle.std.proofs.Common.{vec_len}
use Rattle.sml_text.proofs.Writes.{told_as}
use Rattle.sml_tree.specs.Content.{passed_content}
use Rattle.sml_print.specs.Words.{passed_text}
use Rattle.sml_print.proofs.Tolds.{bracket_some}
use Rattle.sml_print.proofs.Tolds.{then_told}
use Rattle.sml_print.proofs.word.tell_args.Goals as goal

pub returns-clause-told : goal.returns-clause-told
returns-clause-told g c =
    told_as _ _ _ _ _ _ (then_told c.tell.ensures.told (then_told c.tell_passed_list.ensures.told c.tell-2.ensures.told))
    (bracket_some passed_text passed_content c.args.args.now.items (vec_len c.args.args.now) c.args.args.now.ok.0 c.if-is_empty.ensures)
