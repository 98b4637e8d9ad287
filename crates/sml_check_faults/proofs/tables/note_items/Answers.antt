use Rattle.std.proofs.Common.{subst, map}
use Rattle.std.proofs.lemmas.List.{take_all}
use Rattle.sml_tree.specs.Content.{item_content}
use Rattle.sml_check_faults.specs.Tables.{Places, is_named}
use Rattle.sml_check_faults.proofs.Places.{places_noted}
use Rattle.sml_check_faults.proofs.tables.note_items.Goals as goal

pub loop-i-preserved : goal.loop-i-preserved
loop-i-preserved g c =
    places_noted item_content c.args.items.now c.loop-i.i c.index-items-i.result (is_named c.args.kind) c.loop-i.table c.note_item.new.table c.loop-i-test.true c.index-items-i.is c.loop-i.invariant c.in_ok-note_item.ensures.noted

pub returns : goal.returns
returns g c =
    subst (λ xs. Places (is_named c.args.kind) (map item_content xs) c.loop-i.table) (take_all c.loop-i.i c.args.items.now c.loop-i-test.false) c.loop-i.invariant
