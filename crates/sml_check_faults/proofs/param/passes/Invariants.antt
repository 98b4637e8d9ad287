use Rattle.std.proofs.Common.{map}
use Rattle.std.specs.List.{list_any}
use Rattle.sml_tree.specs.Content.{passed_content}
use Rattle.sml_check_faults.specs.Lookup as look
use Rattle.sml_check_faults.proofs.Rests.{Rest}
use Rattle.sml_check_faults.proofs.param.passes.Given as goal

abbrev pub invariant-loop-passed : goal.invariant-loop-passed
invariant-loop-passed g l = Rest (λ ys. list_any (look.is_passed l.name) (map passed_content ys)) l.args l.passed-index (let ys = l.args in list_any (look.is_passed l.name) (map passed_content ys))
