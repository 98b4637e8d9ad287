-- What the end of a run says of its journal.
use Rattle.std.specs.Prelude.{◌≢◌, List}
use Rattle.sml_domain.specs.Domain.{Domain}
use Rattle.smi_journal_entries.specs.declared.entry.Entry.{Entry}
use Rattle.smi_run_report.specs.Rests.{IsAtRest}
use Rattle.smi_run_shared.specs.declared.ending.ServeEnd.{ServeEnd}
use Rattle.smi_run_shared.specs.declared.ending.ServeEnd.TheVariants.{Memory}

-- unless memory was refused, each object whose action is open is logical and waits
abbrev pub EndsAtRest : Domain → ServeEnd → List Entry → Type 0
EndsAtRest d end J = end ≢ Memory → IsAtRest d J
