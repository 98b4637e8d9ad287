use Rattle.std.proofs.Common.{map, []}
use Rattle.sml_tree.specs.Content.{passed_content}
use Rattle.sml_check_faults.specs.Lookup as look
use Rattle.sml_check_faults.specs.Repeats as repeats
use Rattle.sml_check_faults.proofs.Rests.{Past}
use Rattle.sml_check_faults.proofs.repeated.repeated_passed.Given as goal

abbrev pub invariant-loop-i : goal.invariant-loop-i
invariant-loop-i g l = Past (λ bs ys. look.first_item (repeats.each_after repeats.repeated_passed bs ys)) passed_content l.args l.i (look.first_item (repeats.each_after repeats.repeated_passed [] (map passed_content l.args)))
