use Rattle.std.proofs.Common.{sym, ap}
use Rattle.sml_writer.proofs.Telling.{tells_again, tells_nothing, then_tells}
use Rattle.smirun_live.specs.Standing.{asker_text}
use Rattle.smirun_live.proofs.standing.tell_asker.Goals as goal

pub returns-in-Operator : goal.returns-in-Operator
returns-in-Operator g c =
    tells_again (then_tells c.tell_session.ensures c.tell_number.ensures) (ap (λ s. asker_text s c.args.number) (sym c.in-Operator.is))

pub returns-in-Object : goal.returns-in-Object
returns-in-Object g c = tells_again tells_nothing (ap (λ s. asker_text s c.args.number) (sym c.in-Object.is))
