use Rattle.std.proofs.Common.{sym, ap}
use Rattle.sml_writer.proofs.Telling.{tells_again, then_tells}
use Rattle.smirun_live.specs.Standing.{counts_lines}
use Rattle.smirun_live.proofs.standing.tell_counts_of.Goals as goal

pub returns-in-Some : goal.returns-in-Some
returns-in-Some g c =
    tells_again (then_tells c.tell_count.ensures c.tell_count-in-Some.ensures) (ap (counts_lines c.args.domain.now c.args.o) (sym c.in-Some.is))
