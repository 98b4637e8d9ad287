use Rattle.std.proofs.Common.{◌≡◌, ◌≤◌, map}
use Rattle.std.specs.List.{range_with_len}
use Rattle.smi_run_runtime.specs.Opening.{device_place}
use Rattle.smi_run_runtime.proofs.opening.device_places.Given as goal

abbrev pub invariant-loop-o : goal.invariant-loop-o
invariant-loop-o l =
    (l.places.items ≡ map (device_place l.domain) (range_with_len 0 l.o)) × (l.count ≡ device_place l.domain l.o) × (l.count ≤ l.o)
