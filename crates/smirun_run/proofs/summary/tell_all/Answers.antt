use Rattle.smirun_run.specs.Summary.{summary_text}
use Rattle.sml_writer.proofs.Telling.{then_tells}
use Rattle.smirun_run.proofs.summary.tell_all.Goals as goal

pub returns : goal.returns
unfolding summary_text
returns g c =
    then_tells c.tell_end.ensures (then_tells c.tell_states.ensures (then_tells c.tell_all_stalled.ensures
    (then_tells c.tell_group.ensures (then_tells c.tell_group-2.ensures c.tell_all_refused.ensures))))
