use Rattle.sml_load.proofs.Texts.{has_texts}
use Rattle.sml_load.proofs.laws.laws_of_read_files.Goals as goal

pub returns : goal.returns
returns c = record { texts = λ text file h. has_texts file (c.laws_of_printing.ensures.writable text file h) }
