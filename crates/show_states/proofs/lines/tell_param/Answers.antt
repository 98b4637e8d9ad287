use Rattle.std.proofs.Common.{ap}
use Rattle.show_states.specs.StandingText.{standing_param_line}
use Rattle.sml_writer.proofs.Telling.{tells_again, then_tells}
use Rattle.show_states.proofs.lines.tell_param.Goals as goal

pub returns : goal.returns
returns g c =
    tells_again
    (then_tells c.say.ensures (then_tells c.tell_object.ensures (then_tells c.tell_word.ensures
    (then_tells c.say-2.ensures (then_tells c.tell_value.ensures c.say-3.ensures)))))
    (ap (λ p. standing_param_line c.args.domain.now c.args.o p c.args.value.now) c.param.view_is)
