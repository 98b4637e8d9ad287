use Rattle.std.proofs.Common.{[], refl}
use Rattle.smi_front_moved.specs.CarriedMoved.{name_moved}
use Rattle.smi_front_moved.proofs.Ranges.{kept_added}
use Rattle.smi_front_moved.proofs.names.names_moved.Goals as goal

pub loop-place-preserved : goal.loop-place-preserved
loop-place-preserved c =
    kept_added (name_moved c.args.moving.now) c.loop-place.place c.loop-place.place [] c.loop-place.names.items c.add_name.new.names.items
    c.loop-place.invariant c.in_ok-add_name.ensures refl
