use Rattle.std.proofs.Common.{◌++◌, codes}
use Rattle.smi_journal.specs.CallText.{object_name_text, spaced, state_name_text}
use Rattle.sml_writer.proofs.Telling.{tells_again, then_tells}
use Rattle.smirun_run.proofs.summary.tell_standing.Goals as goal

pub returns : goal.returns
returns g c =
    let behind = then_tells c.tell_state.ensures c.say-2.ensures in
    tells_again (then_tells c.say.ensures (then_tells c.tell_object.ensures behind))
    (λ i. codes "state" ++ (spaced (object_name_text (c.domain-domain.ensures i) c.args.o)
    ++ (spaced (state_name_text (c.domain-domain.ensures i) (c.state.ensures i)) ++ codes "\n")))
