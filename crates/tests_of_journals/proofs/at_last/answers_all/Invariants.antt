-- The board stays one of the domain.
use Rattle.std.proofs.Common.{◌≡◌}
use Rattle.tests_of_journals.proofs.at_last.answers_all.Given as goal

abbrev pub invariant-loop-call : goal.invariant-loop-call
invariant-loop-call l = record {
  domain : l.board.domain ≡ l.domain;
}
