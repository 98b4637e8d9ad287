use Rattle.std.proofs.Common.{length}
use Rattle.smi_journal_entries.proofs.members.+same_sets.Given as goal

abbrev pub decreases-same_sets : goal.decreases-same_sets
decreases-same_sets l = length l.sets.now
