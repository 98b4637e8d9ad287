use Rattle.std.proofs.Common.{slice_get}
use Rattle.sml_writer.proofs.Telling.{tells_again, then_tells}
use Rattle.smirun_live.proofs.Counts.{lines_of_one_more}
use Rattle.smirun_live.specs.Standing.{once_line}
use Rattle.smirun_live.proofs.standing.tell_each_once.Goals as goal

-- the line of one name more
pub loop-place-preserved : goal.loop-place-preserved
loop-place-preserved g c =
    let d = c.args.domain.now in
    let a = c.args.accounts.now in
    tells_again (then_tells c.loop-place.invariant c.tell_once.ensures) (lines_of_one_more (λ p. once_line d a.fates.counts (slice_get a.told p) (slice_get a.fates.watched p)) c.loop-place.place)
