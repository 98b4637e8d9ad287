use Rattle.std.proofs.Common.{ap}
use Rattle.smi_journal.specs.CallText.{name_or_nothing, spaced}
use Rattle.sml_writer.proofs.Telling.{tells_again, then_tells}
use Rattle.show_states.proofs.lines.tell_open.Goals as goal

pub returns : goal.returns
returns g c =
    then_tells c.say.ensures (then_tells c.tell_object.ensures
    (then_tells (tells_again c.tell_spaced.ensures (ap (λ n. spaced (name_or_nothing n)) c.action_name.ensures))
    (then_tells c.say-2.ensures c.say-3.ensures)))
