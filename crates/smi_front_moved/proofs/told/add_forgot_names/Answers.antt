use Rattle.std.proofs.Common.{refl}
use Rattle.smi_front_moved.specs.MovedLines.{forgot_name}
use Rattle.smi_front_moved.proofs.Ranges.{kept_added}
use Rattle.smi_front_moved.proofs.told.add_forgot_names.Goals as goal

pub loop-place-preserved : goal.loop-place-preserved
loop-place-preserved c =
    kept_added (forgot_name c.args.moving.now) c.loop-place.place c.loop-place.place c.args.lines.now.items c.loop-place.lines.items c.add_forgot_name.new.lines.items
    c.loop-place.invariant c.in_ok-add_forgot_name.ensures refl
