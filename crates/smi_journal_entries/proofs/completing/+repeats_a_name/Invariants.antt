use Rattle.std.proofs.Common.{length}
use Rattle.smi_journal_entries.proofs.completing.+repeats_a_name.Given as goal

abbrev pub decreases-repeats_a_name : goal.decreases-repeats_a_name
decreases-repeats_a_name l = length l.passed.now
