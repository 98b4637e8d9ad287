use Rattle.smi_journal_entries.proofs.OneMore.{one_more}
use Rattle.smi_journal_entries.proofs.laws.laws_of_entries.Goals as goal

pub returns : goal.returns
returns c = record { more = one_more }
