use Rattle.sml_text.proofs.Writes.{told_front}
use Rattle.sml_text.proofs.writing.tell.Goals as goal

pub returns-in-Err-clause-told : goal.returns-in-Err-clause-told
returns-in-Err-clause-told g c = rw c.if-failed.false (told_front _ _ _ c.in-Err.ensures.err)
