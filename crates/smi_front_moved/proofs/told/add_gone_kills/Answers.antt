use Rattle.smi_front_moved.specs.MovedLines.{gone_kill}
use Rattle.smi_front_moved.proofs.Ranges.{kept_read}
use Rattle.smi_front_moved.proofs.told.add_gone_kills.Goals as goal

pub loop-kill-preserved : goal.loop-kill-preserved
loop-kill-preserved c =
    let m = c.args.moving.now in
    kept_read (gone_kill m) c.kills_before-kill-items.result.now m.front.kills c.loop-kill.kill-index c.kill-item.result
    c.args.lines.now.items c.loop-kill.lines.items c.add_gone_kill.new.lines.items c.kills_before-kill-items.ensures c.loop-kill.invariant
    c.in_ok-add_gone_kill.ensures c.loop-kill-test.true c.kill-item.is
