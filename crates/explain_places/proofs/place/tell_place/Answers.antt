use Rattle.sml_writer.proofs.Telling.{tells_again, then_tells}
use Rattle.explain_places.proofs.place.tell_place.Goals as goal

pub returns : goal.returns
returns g c =
    let file = tells_again c.say.ensures c.as_bytes.ensures.value in
    then_tells (then_tells (then_tells file c.say-2.ensures) c.tell_spot.ensures) c.say-3.ensures
