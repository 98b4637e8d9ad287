use Rattle.std.proofs.Common.{◌<◌, ℕ, get_or}
use Rattle.sml_outset.specs.Outset.{Stand}
use Rattle.sml_outset.specs.Suits.{StandSuits}
use Rattle.sml_outset.proofs.suiting.stands_suit.Given as goal

abbrev pub invariant-loop-o : goal.invariant-loop-o
invariant-loop-o l = (k : ℕ) (s : Stand) → k < l.o → StandSuits l.domain k (get_or l.stands k s)
