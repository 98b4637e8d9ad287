use Rattle.std.proofs.Common.{map, []}
use Rattle.sml_tree.specs.Content.{class_param_content}
use Rattle.sml_check_faults.specs.Lookup as look
use Rattle.sml_check_faults.specs.Repeats as repeats
use Rattle.sml_check_faults.proofs.Rests.{Past}
use Rattle.sml_check_faults.proofs.repeated.repeated_class_param.Given as goal

abbrev pub invariant-loop-i : goal.invariant-loop-i
invariant-loop-i g l = Past (λ bs ys. look.first_item (repeats.each_after repeats.repeated_class_param bs ys)) class_param_content l.params l.i (look.first_item (repeats.each_after repeats.repeated_class_param [] (map class_param_content l.params)))
