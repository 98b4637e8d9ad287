use Rattle.std.proofs.Common.{flat_map, map}
use Rattle.sml_tree.specs.Content.{state_content}
use Rattle.sml_check_faults.specs.Lookup.{action_sites, actions_of}
use Rattle.sml_check_faults.proofs.Noted.{Notes}
use Rattle.sml_check_faults.proofs.tables.NameTables.note_states.Given as goal

abbrev pub invariant-loop-state : goal.invariant-loop-state
invariant-loop-state g l =
    Notes l.self.objects l.self.groups (λ zs. flat_map action_sites (flat_map actions_of (map state_content zs)))
    l.states l.state-index l.initial.may.items l.may.items
