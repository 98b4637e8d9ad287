use Rattle.std.proofs.Common.{◌++◌, take}
use Rattle.std.proofs.KnownBytes.{Keeps-trans}
use Rattle.std.specs.Io.KnownBytes.{Keeps}
use Rattle.smirun_live.proofs.Sending.{kept_of_none, sent_front, sent_more}
use Rattle.smirun_live.proofs.log.send_all.Goals as goal

pub loop-rest-preserved : goal.loop-rest-preserved
loop-rest-preserved g c =
    let i = c.loop-rest.invariant in
    let k = c.in-Ok.ensures in
    let m = sent_more _ _ _ c.args.lines.now i.0 c.loop-rest.rest.now _ c.in-Ok.count i.1 c.split_at.ensures.back i.2 k.sent in
    (i.0 ++ take c.in-Ok.count c.loop-rest.rest.now, m.0, m.1, Keeps-trans _ _ _ i.3 k.disk)

pub returns-in-Err-clause-prefix : goal.returns-in-Err-clause-prefix
returns-in-Err-clause-prefix g c =
    let i = c.loop-rest.invariant in
    sent_front _ _ _ c.args.lines.now i.0 c.loop-rest.rest.now i.1 i.2 c.in-Err.ensures.sent

pub returns-in-Ok-eq0-clause-prefix : goal.returns-in-Ok-eq0-clause-prefix
returns-in-Ok-eq0-clause-prefix g c =
    let i = c.loop-rest.invariant in
    let none : Keeps (g.F.Write.contents c.loop-rest.file) (g.F.Write.contents c.send.new.self) =
    kept_of_none _ _ c.loop-rest.rest.now c.in-Ok-eq0.field-0 c.in-Ok-eq0.field-0-test c.in-Ok-eq0.ensures.sent in
    sent_front _ _ _ c.args.lines.now i.0 c.loop-rest.rest.now i.1 i.2 none
