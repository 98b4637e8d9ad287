use Rattle.std.proofs.Common.{◌≡◌, false, arith}
use Rattle.smi_live.proofs.Cases.{on_ok}
use Rattle.smi_live.proofs.Taken.{no_step_new}
use Rattle.smi_live.proofs.taking.take_marked.Goals as goal

pub returns-in-None-clause-takes : goal.returns-in-None-clause-takes
returns-in-None-clause-takes g c =
    let read : c.is_unread.result ≡ false = grind (arith, c.if-is_unread.false) in
    on_ok c.take_refused.result c.take_refused.ensures.keeps (λ e. no_step_new c.args.read.now c.args.taken.text.now _ (c.is_unread.ensures read) c.in-None.ensures.none c.requires.reads e)
