use Rattle.smi_journal_entries.proofs.Changing.{begin_declared, begin_of, changes_are_of}
use Rattle.smi_journal_entries.proofs.laws.laws_of_members.Goals as goal

pub returns-clause-declared : goal.returns-clause-declared
returns-clause-declared c = begin_declared

pub returns-clause-begin : goal.returns-clause-begin
returns-clause-begin c = begin_of

pub returns-clause-changes : goal.returns-clause-changes
returns-clause-changes c = changes_are_of
