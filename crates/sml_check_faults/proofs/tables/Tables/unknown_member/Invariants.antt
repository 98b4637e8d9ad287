use Rattle.std.proofs.Common.{flat_map, false}
use Rattle.sml_tree.specs.Content.{file_content}
use Rattle.sml_check_faults.specs.Lookup as look
use Rattle.sml_check_faults.specs.Faults as faults
use Rattle.sml_check_faults.proofs.Rests.{Rest}
use Rattle.sml_check_faults.proofs.tables.Tables.unknown_member.Given as goal

abbrev pub invariant-loop-member : goal.invariant-loop-member
invariant-loop-member g l = Rest (λ ys. look.first_item (flat_map (faults.unknown_object (file_content l.self.file.now) false) ys)) l.members l.member-index (let ys = l.members in look.first_item (flat_map (faults.unknown_object (file_content l.self.file.now) false) ys))
