use Rattle.std.proofs.Common.{flat_map, map, refl}
use Rattle.sml_tree.specs.Content.{action_content}
use Rattle.sml_check_faults.specs.Lookup.{action_sites}
use Rattle.sml_check_faults.proofs.Noted.{notes_more, notes_end}
use Rattle.sml_check_faults.proofs.tables.NameTables.note_actions.Goals as goal

pub loop-action-preserved : goal.loop-action-preserved
loop-action-preserved g c =
    notes_more c.args.self.now.objects c.args.self.now.groups (λ zs. flat_map action_sites (map action_content zs))
    (λ x. action_sites (action_content x)) (λ x zs. refl) c.args.actions.now c.args.actions.now
    c.loop-action.action-index
    c.args.may.now.items c.loop-action.may.items c.loop-action.invariant refl c.note_block.new.may.items
    c.action-item.result c.loop-action-test.true c.action-item.is c.in_ok-note_block.ensures

pub returns : goal.returns
returns g c =
    notes_end c.args.self.now.objects c.args.self.now.groups (λ zs. flat_map action_sites (map action_content zs))
    (λ x. action_sites (action_content x)) (λ x zs. refl) c.args.actions.now c.args.actions.now
    c.loop-action.action-index
    c.args.may.now.items c.loop-action.may.items c.loop-action.invariant refl refl c.loop-action-test.false
