use Rattle.sml_tree.specs.Content.{item_content}
use Rattle.sml_check_faults.proofs.Places.{got}
use Rattle.sml_check_faults.proofs.tables.Tables.item.Goals as goal

pub returns : goal.returns
returns g c = got item_content c.args.self.now.file.now.items.items c.deref.result.now c.args.place c.get.result c.deref.ensures.value c.get.ensures.lookup
