use Rattle.sml_tree.specs.Content.{item_content}
use Rattle.sml_check_faults.specs.Repeats.{repeated_item}
use Rattle.sml_check_faults.proofs.Loops.{lent_here, lent_next}
use Rattle.sml_check_faults.proofs.Rests.{past_end_lent}
use Rattle.sml_check_faults.proofs.tables.Tables.repeated.Goals as goal

pub returns-in-Some : goal.returns-in-Some
returns-in-Some g c =
    lent_here repeated_item item_content c.args.self.now.file.now.items.items c.deref-item-items.result.now c.loop-i.i _ c.item-item.result c.loop-i.invariant c.deref-item-items.ensures.value c.loop-i-test.true c.item-item.is c.in-Some.name
    c.in-Some.ensures

pub loop-i-preserved : goal.loop-i-preserved
loop-i-preserved g c =
    lent_next repeated_item item_content c.args.self.now.file.now.items.items c.deref-item-items.result.now c.loop-i.i _ c.item-item.result c.loop-i.invariant c.deref-item-items.ensures.value c.loop-i-test.true c.item-item.is
    c.in_default.ensures

pub returns : goal.returns
returns g c = past_end_lent c.deref-item-items.result.now c.deref-item-items.ensures.value c.loop-i.invariant c.loop-i-test.false
