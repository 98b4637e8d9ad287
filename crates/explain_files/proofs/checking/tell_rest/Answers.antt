use Rattle.std.proofs.Common.{arith}
use Rattle.explain_files.proofs.Tolds.{others_none}
use Rattle.sml_writer.proofs.Telling.{tells_again, tells_nothing}
use Rattle.explain_files.proofs.checking.tell_rest.Goals as goal

pub returns-else-count-gt0 : goal.returns-else-count-gt0
returns-else-count-gt0 g c =
    tells_again tells_nothing
    (others_none c.args.file.now _ (omega (arith, c.if-count-gt0.false, c.others-count.ensures)))
