use Rattle.sml_check_faults.proofs.Places.{newly, kept_by}
use Rattle.sml_check_faults.proofs.tables.note.Goals as goal

pub returns-in_ok-insert : goal.returns-in_ok-insert
returns-in_ok-insert g c = record { noted = λ q. newly q c.args.name c.args.place c.args.table.now c.insert.new.self (c.in_ok-insert.ensures.updates.0 q) c.if-is_free.ensures }

pub returns-else-is_free : goal.returns-else-is_free
returns-else-is_free g c = record { noted = λ q. kept_by q c.args.name c.args.place c.args.table.now c.if-is_free.ensures }
