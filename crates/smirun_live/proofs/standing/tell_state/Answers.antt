use Rattle.std.proofs.Common.{◌∙◌, sym, ap}
use Rattle.sml_writer.proofs.Telling.{tells_again, then_tells}
use Rattle.smi_journal.specs.CallText.{name_or_nothing, spaced}
use Rattle.smirun_live.proofs.standing.tell_state.Goals as goal

pub returns-in-Some : goal.returns-in-Some
returns-in-Some g c =
    tells_again (then_tells c.say.ensures (tells_again c.say-in-Some.ensures c.as_bytes.ensures.bytes))
    (ap (λ n. spaced (name_or_nothing n)) (sym c.in-Some.is ∙ c.state_name.ensures))
