use Rattle.std.proofs.Common.{◌∙◌, ap, slice_get}
use Rattle.sml_writer.proofs.Telling.{tells_again, then_tells}
use Rattle.smirun_live.proofs.Counts.{lines_of_one_more}
use Rattle.smirun_live.specs.Standing.{counts_lines}
use Rattle.smirun_live.proofs.standing.tell_counts.Goals as goal

-- the lines of one object more
pub loop-o-preserved : goal.loop-o-preserved
loop-o-preserved g c =
    let d = c.args.domain.now in
    let counts = c.args.accounts.now.fates.counts in
    tells_again (then_tells c.loop-o.invariant (tells_again c.tell_counts_of.ensures
    (ap (counts_lines d c.new-o.result) c.counts.ensures ∙ ap (λ o. counts_lines d o (slice_get counts o)) c.new-o.ensures))) (lines_of_one_more (λ o. counts_lines d o (slice_get counts o)) c.loop-o.o)
