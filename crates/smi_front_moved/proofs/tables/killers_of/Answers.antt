-- One kill more, from none to all.
use Rattle.smi_front_moved.proofs.Tabled.{one_killer_more}
use Rattle.smi_front_moved.proofs.tables.killers_of.Goals as goal

pub loop-kill-preserved : goal.loop-kill-preserved
loop-kill-preserved c =
    one_killer_more c.args.count c.args.kills.now c.loop-kill.kill-index c.kill-item.result c.loop-kill.killers.items
    c.put_killer.new.killers.items c.loop-kill.invariant c.put_killer.ensures.count c.put_killer.ensures.each
    c.loop-kill-test.true c.kill-item.is
