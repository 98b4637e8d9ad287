use Rattle.std.proofs.Common.{◌<◌, ℕ, get_or}
use Rattle.sml_domain.specs.Domain.{Param}
use Rattle.sml_outset.specs.Suits.{ParamSuits}
use Rattle.sml_outset.proofs.suiting.params_suit.Given as goal

abbrev pub invariant-loop-i : goal.invariant-loop-i
invariant-loop-i l = (k : ℕ) (p x : Param) → k < l.i → ParamSuits (get_or l.params k p) (get_or l.given k x)
