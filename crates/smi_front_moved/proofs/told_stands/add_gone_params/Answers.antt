use Rattle.smi_front_moved.specs.MovedLines.{gone_params_of}
use Rattle.smi_front_moved.proofs.Ranges.{lists_added}
use Rattle.smi_front_moved.proofs.told_stands.add_gone_params.Goals as goal

pub loop-p-preserved : goal.loop-p-preserved
loop-p-preserved c =
    lists_added (gone_params_of c.args.moving.now) c.loop-p.p c.new.result c.args.lines.now.items c.loop-p.lines.items c.add_gone_params_of.new.lines.items
    c.loop-p.invariant c.in_ok-add_gone_params_of.ensures c.new.ensures
