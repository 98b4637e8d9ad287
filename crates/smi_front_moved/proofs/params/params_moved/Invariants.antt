use Rattle.std.proofs.Common.{◌≡◌, map, take}
use Rattle.smi_front_moved.specs.StandsMoved.{param_moved}
use Rattle.smi_front_moved.proofs.params.params_moved.Given as goal

-- those before were made
abbrev pub invariant-loop-param : goal.invariant-loop-param
invariant-loop-param l = l.made.items ≡ map (param_moved l.given) (take l.param-index l.params)
