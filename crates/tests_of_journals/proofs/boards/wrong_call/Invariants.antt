-- The board stays one of the domain.
use Rattle.std.proofs.Common.{◌≡◌}
use Rattle.tests_of_journals.proofs.boards.wrong_call.Given as goal

abbrev pub invariant-loop-place : goal.invariant-loop-place
invariant-loop-place l = record {
  domain : l.board.domain ≡ l.domain;
}
