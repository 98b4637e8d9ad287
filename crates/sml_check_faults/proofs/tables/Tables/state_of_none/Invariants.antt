use Rattle.std.proofs.Common.{flat_map}
use Rattle.sml_tree.specs.Content.{file_content}
use Rattle.sml_check_faults.specs.Lookup as look
use Rattle.sml_check_faults.specs.Faults as faults
use Rattle.sml_check_faults.proofs.Rests.{Rest}
use Rattle.sml_check_faults.proofs.tables.Tables.state_of_none.Given as goal

abbrev pub invariant-loop-state : goal.invariant-loop-state
invariant-loop-state g l = Rest (λ ys. look.first_item (flat_map (faults.state_of_none (file_content l.self.file.now) l.objects) ys)) l.states l.state-index (let ys = l.states in look.first_item (flat_map (faults.state_of_none (file_content l.self.file.now) l.objects) ys))
