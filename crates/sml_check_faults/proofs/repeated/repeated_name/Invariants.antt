use Rattle.std.proofs.Common.{[]}
use Rattle.sml_check_faults.specs.Lookup as look
use Rattle.sml_check_faults.specs.Repeats as repeats
use Rattle.sml_check_faults.proofs.Rests.{Past}
use Rattle.sml_check_faults.proofs.repeated.repeated_name.Given as goal

abbrev pub invariant-loop-i : goal.invariant-loop-i
invariant-loop-i l = Past (λ bs ys. look.first_item (repeats.each_after repeats.repeated_name bs ys)) (λ n. n) l.names l.i (look.first_item (repeats.each_after repeats.repeated_name [] l.names))
