use Rattle.smirun_commands.proofs.Kept.{kept_if}
use Rattle.smirun_commands.proofs.kept_journal.KeptJournal.keep_up.Goals as goal

pub returns-clause-ok : goal.returns-clause-ok
returns-clause-ok g c = kept_if c.flushed.result c.args.domain.now c.args.journal.now c.behind.result.now c.args.self.now.count _ _ _ _ c.behind.ensures c.tell_lines.ensures.told c.flushed.ensures.ok c.flushed.ensures.bytes
