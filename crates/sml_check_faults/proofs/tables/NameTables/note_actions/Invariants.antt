use Rattle.std.proofs.Common.{flat_map, map}
use Rattle.sml_tree.specs.Content.{action_content}
use Rattle.sml_check_faults.specs.Lookup.{action_sites}
use Rattle.sml_check_faults.proofs.Noted.{Notes}
use Rattle.sml_check_faults.proofs.tables.NameTables.note_actions.Given as goal

abbrev pub invariant-loop-action : goal.invariant-loop-action
invariant-loop-action g l = Notes l.self.objects l.self.groups (λ zs. flat_map action_sites (map action_content zs))
    l.actions l.action-index l.initial.may.items l.may.items
