use Rattle.std.proofs.Common.{refl}
use Rattle.smi_front_moved.specs.MovedLines.{gone_param}
use Rattle.smi_front_moved.proofs.Ranges.{kept_added}
use Rattle.smi_front_moved.proofs.told_stands.add_gone_params_of.Goals as goal

pub loop-place-preserved : goal.loop-place-preserved
loop-place-preserved c =
    kept_added (gone_param c.args.moving.now c.args.p) c.loop-place.place c.loop-place.place c.args.lines.now.items c.loop-place.lines.items c.add_gone_param.new.lines.items
    c.loop-place.invariant c.in_ok-add_gone_param.ensures refl
