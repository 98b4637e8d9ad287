-- A start that was made.
use Rattle.std.proofs.Common.{◌∙◌, Err, ap, sym}
use Rattle.smi_core.proofs.Started.{run_started, perform_started, skipped_started, start_errs}
use Rattle.smi_core.proofs.machine.Machine.start_at.Goals as goal

pub returns-in-Ok-Run : goal.returns-in-Ok-Run
returns-in-Ok-Run c = λ x named. run_started _ _ _ _ _ _ c.told.ensures c.told-in-Ok-Run.ensures c.requires.have c.requires.within (sym named) c.in-Ok-Run.ensures.free c.in-Ok-Run.ensures.started c.start.ensures.others c.start.ensures.domain c.start.ensures.most c.start.ensures.capacity c.start.ensures.params c.start.ensures.kept _ _ _ _ c.in-Ok-Run.field-0-is c.keep.ensures c.journal-first.ensures.is c.entries_since.ensures

pub returns-in-Ok-Perform : goal.returns-in-Ok-Perform
returns-in-Ok-Perform c = λ x named. perform_started _ _ _ _ _ _ c.told.ensures c.told-in-Ok-Perform.ensures c.requires.have c.requires.within (sym named) c.in-Ok-Perform.ensures.free c.in-Ok-Perform.ensures.started c.start.ensures.others c.start.ensures.domain c.start.ensures.most c.start.ensures.capacity c.start.ensures.params c.start.ensures.kept _ _ _ _ c.in-Ok-Perform.field-0-is c.journal-first.ensures.is c.entries_since-in-Ok-Perform.ensures

pub returns-in-Ok-Skipped : goal.returns-in-Ok-Skipped
returns-in-Ok-Skipped c = λ x named. skipped_started _ _ _ _ _ _ c.told.ensures c.told-in-Ok-Skipped.ensures c.requires.have c.requires.within (sym named) c.in-Ok-Skipped.ensures.free c.in-Ok-Skipped.ensures.started c.start.ensures.others c.start.ensures.domain c.start.ensures.most c.start.ensures.capacity c.start.ensures.params c.start.ensures.kept _ _ c.in-Ok-Skipped.field-0-is c.journal-first.ensures.is c.entries_since-in-Ok-Skipped.ensures

pub returns : goal.returns
returns c = λ x named. start_errs _ _ _ _ _ _ _ c.told.ensures c.requires.have c.requires.within (sym named) c.in-Err.ensures.refused (λ is. c.start.ensures.empty (c.in-Err.is ∙ ap Err is)) c.in-Err.ensures.same c.start_error.ensures
