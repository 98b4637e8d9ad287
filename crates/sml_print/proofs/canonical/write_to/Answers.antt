use Rattle.sml_text.proofs.Writes.{front_told}
use Rattle.sml_print.proofs.canonical.write_to.Goals as goal

pub returns-then-failed-clause-err : goal.returns-then-failed-clause-err
returns-then-failed-clause-err g c = front_told _ _ _ _ _ c.tell_items.ensures.told
