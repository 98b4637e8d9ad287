use Rattle.std.proofs.Common.{[]}
use Rattle.smi_front_moved.specs.CarriedMoved.{kill_moved}
use Rattle.smi_front_moved.proofs.Ranges.{kept_added}
use Rattle.smi_front_moved.proofs.counts.kills_moved.Goals as goal

pub loop-o-preserved : goal.loop-o-preserved
loop-o-preserved c =
    kept_added (kill_moved c.args.moving.now) c.loop-o.o c.new.result [] c.loop-o.kills.items c.add_kill.new.kills.items
    c.loop-o.invariant c.in_ok-add_kill.ensures c.new.ensures
