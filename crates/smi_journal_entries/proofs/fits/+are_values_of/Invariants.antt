use Rattle.std.proofs.Common.{length}
use Rattle.smi_journal_entries.proofs.fits.+are_values_of.Given as goal

abbrev pub decreases-are_values_of : goal.decreases-are_values_of
decreases-are_values_of l = length l.params.now
