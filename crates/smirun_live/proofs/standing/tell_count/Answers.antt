use Rattle.sml_writer.proofs.Telling.{tells_again, then_tells}
use Rattle.smirun_live.proofs.Counts.{some_count}
use Rattle.smirun_live.proofs.standing.tell_count.Goals as goal

pub returns-then-count-gt0 : goal.returns-then-count-gt0
returns-then-count-gt0 g c =
    tells_again (then_tells c.say.ensures (then_tells c.tell_object.ensures (then_tells c.tell_number.ensures c.say-then-count-gt0.ensures)))
    (some_count c.args.domain.now c.args.o c.args.word.now c.args.count c.if-count-gt0.true)
