use Rattle.std.proofs.Common.{sym, ap}
use Rattle.sml_writer.proofs.Telling.{tells_again, then_tells}
use Rattle.smirun_live.specs.Standing.{stood_text}
use Rattle.smirun_live.proofs.standing.tell_stood.Goals as goal

pub returns-in-Some : goal.returns-in-Some
returns-in-Some g c =
    tells_again (then_tells c.tell_object.ensures (then_tells c.tell_state.ensures c.tell_number.ensures)) (ap (stood_text c.args.domain.now c.args.o) (sym c.in-Some.is))
