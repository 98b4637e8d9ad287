-- The devices so far are those of the objects that were looked at.
use Rattle.std.proofs.Common.{◌≡◌, length, map}
use Rattle.smi_run_plan.specs.Devices.{devices_from}
use Rattle.smi_run_plan.proofs.Cuts.{second}
use Rattle.smi_run_plan.proofs.answers.DeviceAnswers.devices.Given as goal

abbrev pub invariant-loop-o : goal.invariant-loop-o
invariant-loop-o l =
    (l.o-iterator.count ≡ length l.yielded) × (l.devices.items ≡ devices_from l.domain 0 (map second l.yielded))
