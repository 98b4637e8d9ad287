use Rattle.std.proofs.Common.{arith, subst}
use Rattle.std.specs.Arc.{arc_value}
use Rattle.smirun_logs.specs.Replaying.{EntersLine}
use Rattle.smirun_logs.proofs.Replayed.{all_replayed, next_replayed, past_of_replayed}
use Rattle.smirun_logs.proofs.replaying.past_of_entries.Goals as goal

pub loop-entry-preserved : goal.loop-entry-preserved
loop-entry-preserved g c =
    let e = c.entry-item.result in
    let old = c.loop-entry.past in
    let new = c.in-Some-enter.next in
    let enters : EntersLine (arc_value c.args.domain.now) e old new =
    subst (λ d. EntersLine d e old new) c.deref-in-loop-entry.ensures c.in-Some-enter.ensures in
    next_replayed (arc_value c.args.domain.now) c.args.entries.now c.loop-entry.entry-index e old new
    c.loop-entry-test.true c.entry-item.is c.loop-entry.invariant enters

pub returns : goal.returns
returns g c =
    let d = arc_value c.args.domain.now in
    let all = all_replayed d c.args.entries.now c.loop-entry.entry-index c.loop-entry.past
    (omega (arith, c.loop-entry-test.false)) c.loop-entry.invariant in
    past_of_replayed d c.args.entries.now c.loop-entry.past all
