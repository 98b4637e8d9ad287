use Rattle.std.proofs.Common.{◌≤◌}
use Rattle.smirun_commands.proofs.lint.lint_files.Given as goal

abbrev pub invariant-loop-file : goal.invariant-loop-file
invariant-loop-file g l = l.worst ≤ 1
