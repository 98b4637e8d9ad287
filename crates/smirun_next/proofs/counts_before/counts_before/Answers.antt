use Rattle.std.proofs.Common.{◌≡◌, rules}
use Rattle.smirun_next.proofs.Nexts.{counts_of_front}
use Rattle.smirun_next.proofs.counts_before.counts_before.Goals as goal

pub returns-in-Ok : goal.returns-in-Ok
returns-in-Ok c =
    let same : c.carried.inside.counts.items ≡ c.in-Ok.front.carried.counts = search rules in
    counts_of_front c.args.declared.now c.args.log.now c.log_version.result _ c.in-Ok.front c.log_version.ensures c.in-Two.is record {
      suits = c.in-Ok.ensures.suits;
      held = c.in-Ok.ensures.held;
      rest = c.in-Ok.field-0-1.now;
      says = c.in-Ok.ensures.whole;
    } same
