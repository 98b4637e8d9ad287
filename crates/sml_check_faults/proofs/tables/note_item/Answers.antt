use Rattle.sml_tree.specs.Content.{item_content}
use Rattle.sml_check_faults.proofs.Places.{noted_here, not_noted}
use Rattle.sml_check_faults.proofs.tables.note_item.Goals as goal

pub returns-in-Some : goal.returns-in-Some
returns-in-Some g c = record { noted = noted_here c.note.result c.args.kind (item_content c.args.item.now) c.in-Some.name c.args.place c.args.table.now c.note.new.table c.in-Some.ensures c.note.ensures.noted }

pub returns-in-None : goal.returns-in-None
returns-in-None g c = record { noted = not_noted c.args.kind (item_content c.args.item.now) c.args.place c.args.table.now c.in-None.ensures }
