-- What was taken so far, with the values of the rest, are all values.
use Rattle.std.proofs.Common.{◌≡◌, ◌++◌, drop}
use Rattle.std.specs.List.{filter_map}
use Rattle.smi_meaning.specs.Params.{first_value}
use Rattle.smi_audit.proofs.track.first_values.Given as goal

abbrev pub invariant-loop-param : goal.invariant-loop-param
invariant-loop-param l =
    l.values.items ++ filter_map first_value (drop l.param-index l.params) ≡ filter_map first_value l.params
