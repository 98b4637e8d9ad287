use Rattle.smirun_live.proofs.Sending.{on_err, sent_whole}
use Rattle.smirun_live.proofs.log.write_out.Goals as goal

pub returns-in-Ok-clause-prefix : goal.returns-in-Ok-clause-prefix
returns-in-Ok-clause-prefix g c =
    on_err c.sync_all.result _
    (sent_whole _ _ _ c.args.lines.now c.in-Ok.ensures.whole c.sync_all.ensures.same)
