use Rattle.smi_front_moved.specs.MovedLines.{gone_state}
use Rattle.smi_front_moved.proofs.Ranges.{kept_added}
use Rattle.smi_front_moved.proofs.told_stands.add_gone_states.Goals as goal

pub loop-p-preserved : goal.loop-p-preserved
loop-p-preserved c =
    kept_added (gone_state c.args.moving.now) c.loop-p.p c.new.result c.args.lines.now.items c.loop-p.lines.items c.add_gone_state.new.lines.items
    c.loop-p.invariant c.in_ok-add_gone_state.ensures c.new.ensures
