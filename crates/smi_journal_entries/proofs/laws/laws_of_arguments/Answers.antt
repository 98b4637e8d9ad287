use Rattle.smi_journal_entries.proofs.Completed.{complete_fits}
use Rattle.smi_journal_entries.proofs.Fitting.{fitting_is_good}
use Rattle.smi_journal_entries.proofs.laws.laws_of_arguments.Goals as goal

pub returns-clause-fits : goal.returns-clause-fits
returns-clause-fits c = complete_fits c.laws_of_completing.ensures.kinds

pub returns-clause-good : goal.returns-clause-good
returns-clause-good c = fitting_is_good
