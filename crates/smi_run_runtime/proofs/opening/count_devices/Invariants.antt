use Rattle.std.proofs.Common.{◌≡◌, ◌≤◌, length}
use Rattle.std.specs.List.{filter, range_with_len}
use Rattle.sml_domain.specs.Lookups.{associated_at}
use Rattle.smi_run_runtime.proofs.opening.count_devices.Given as goal

abbrev pub invariant-loop-o : goal.invariant-loop-o
invariant-loop-o l =
    (l.count ≡ length (filter (associated_at l.domain) (range_with_len 0 l.o))) × (l.count ≤ l.o)
