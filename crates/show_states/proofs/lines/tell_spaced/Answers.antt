use Rattle.sml_writer.proofs.Telling.{then_tells}
use Rattle.show_states.proofs.lines.tell_spaced.Goals as goal

pub returns : goal.returns
returns g c = then_tells c.say.ensures c.tell_name.ensures
