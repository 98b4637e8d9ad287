use Rattle.sml_writer.proofs.Telling.{tells_again, then_tells}
use Rattle.show_states.proofs.lines.tell_word.Goals as goal

pub returns : goal.returns
returns g c = then_tells c.say.ensures (tells_again c.say-2.ensures c.as_bytes.ensures.bytes)
