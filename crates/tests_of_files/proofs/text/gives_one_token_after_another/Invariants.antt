use Rattle.std.proofs.Common.{◌≤◌, ◌+◌, length}
use Rattle.tests_of_files.proofs.text.gives_one_token_after_another.Given as goal

abbrev pub invariant-loop-lexeme : goal.invariant-loop-lexeme
invariant-loop-lexeme g l = l.place + length l.rest ≤ 200
