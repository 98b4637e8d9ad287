use Rattle.sml_writer.proofs.Telling.{then_tells}
use Rattle.explain_places.proofs.place.tell_spot.Goals as goal

pub returns : goal.returns
returns g c = then_tells (then_tells c.number.ensures c.say.ensures) c.number-2.ensures
