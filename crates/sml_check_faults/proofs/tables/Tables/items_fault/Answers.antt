use Rattle.sml_tree.specs.Content.{file_content, item_content}
use Rattle.sml_check_faults.specs.Kinds.{item_faults}
use Rattle.sml_check_faults.proofs.Loops.{first_one, first_more}
use Rattle.sml_check_faults.proofs.Rests.{rest_end}
use Rattle.sml_check_faults.proofs.tables.Tables.items_fault.Goals as goal

pub returns-in-Some : goal.returns-in-Some
returns-in-Some g c = first_one (item_faults c.args.kind (file_content c.args.self.now.file.now)) item_content c.args.items.now c.loop-item.item-index _ c.item-item.result c.loop-item.invariant c.loop-item-test.true c.item-item.is c.in-Some.name c.in-Some.ensures

pub loop-item-preserved : goal.loop-item-preserved
loop-item-preserved g c = first_more (item_faults c.args.kind (file_content c.args.self.now.file.now)) item_content c.args.items.now c.loop-item.item-index _ c.item-item.result c.loop-item.invariant c.loop-item-test.true c.item-item.is c.in_default.ensures

pub returns : goal.returns
returns g c = rest_end c.loop-item.invariant c.loop-item-test.false
