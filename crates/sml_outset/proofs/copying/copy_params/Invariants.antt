use Rattle.std.proofs.Common.{◌≡◌, take}
use Rattle.sml_outset.proofs.copying.copy_params.Given as goal

abbrev pub invariant-loop-param : goal.invariant-loop-param
invariant-loop-param l = l.made.items ≡ take l.param-index l.params
