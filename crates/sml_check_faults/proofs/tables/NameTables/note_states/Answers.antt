use Rattle.std.proofs.Common.{◌∙◌, ap, flat_map, map, refl}
use Rattle.std.proofs.lemmas.List.Concat.{flat_map-append}
use Rattle.sml_tree.specs.Content.{state_content, action_content}
use Rattle.sml_check_faults.specs.Lookup.{action_sites, actions_of}
use Rattle.sml_check_faults.specs.Tables.{names_in, lists_after}
use Rattle.sml_check_faults.proofs.Noted.{notes_more, notes_end}
use Rattle.sml_check_faults.proofs.tables.NameTables.note_states.Goals as goal

pub loop-state-preserved : goal.loop-state-preserved
loop-state-preserved g c =
    notes_more c.args.self.now.objects c.args.self.now.groups
    (λ zs. flat_map action_sites (flat_map actions_of (map state_content zs)))
    (λ x. flat_map action_sites (actions_of (state_content x)))
    (λ x zs. flat_map-append action_sites (actions_of (state_content x))
    (flat_map actions_of (map state_content zs))) c.args.states.now c.args.states.now c.loop-state.state-index
    c.args.may.now.items c.loop-state.may.items c.loop-state.invariant refl c.note_actions.new.may.items
    c.state-item.result c.loop-state-test.true c.state-item.is
    (c.in_ok-note_actions.ensures
    ∙ ap (λ as'. lists_after c.args.self.now.objects c.args.self.now.groups (map names_in c.loop-state.may.items)
    (flat_map action_sites (map action_content as'))) c.deref.ensures.value)

pub returns : goal.returns
returns g c =
    notes_end c.args.self.now.objects c.args.self.now.groups
    (λ zs. flat_map action_sites (flat_map actions_of (map state_content zs)))
    (λ x. flat_map action_sites (actions_of (state_content x)))
    (λ x zs. flat_map-append action_sites (actions_of (state_content x))
    (flat_map actions_of (map state_content zs))) c.args.states.now c.args.states.now c.loop-state.state-index
    c.args.may.now.items c.loop-state.may.items c.loop-state.invariant refl refl c.loop-state-test.false
