use Rattle.std.proofs.Common.{ap}
use Rattle.sml_writer.proofs.Telling.{tells_again, then_tells}
use Rattle.smi_request_fates.specs.Kept.{WatchedView}
use Rattle.smirun_live.specs.Standing.{under_way_text}
use Rattle.smirun_live.proofs.standing.tell_under_way.Goals as goal

pub returns : goal.returns
returns g c =
    tells_again (then_tells c.say.ensures (then_tells c.tell_asker.ensures c.say-2.ensures))
    (ap (λ (w : WatchedView). under_way_text w c.args.word.now) c.watched.view_is)
