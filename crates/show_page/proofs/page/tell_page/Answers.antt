use Rattle.sml_writer.proofs.Telling.{then_tells}
use Rattle.show_page.proofs.page.tell_page.Goals as goal

pub returns : goal.returns
returns g c =
    then_tells c.say.ensures (then_tells c.tell_escaped.ensures
    (then_tells c.say-2.ensures (then_tells c.tell_escaped-2.ensures
    (then_tells c.say-3.ensures (then_tells c.tell_escaped-3.ensures
    (then_tells c.say-4.ensures (then_tells c.tell_escaped-4.ensures
    (then_tells c.say-5.ensures (then_tells c.tell_escaped-5.ensures
    (then_tells c.say-6.ensures (then_tells c.tell_escaped-6.ensures c.say-7.ensures)))))))))))
