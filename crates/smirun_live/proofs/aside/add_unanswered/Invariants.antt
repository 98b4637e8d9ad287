use Rattle.std.proofs.Common.{◌≡◌, ◌++◌}
use Rattle.smirun_live.specs.Aside.{unanswered_text}
use Rattle.smirun_live.proofs.aside.add_unanswered.Given as goal

abbrev pub invariant-loop : goal.invariant-loop
invariant-loop l = l.text.items ≡ l.fn.text.items ++ unanswered_text l.counter
