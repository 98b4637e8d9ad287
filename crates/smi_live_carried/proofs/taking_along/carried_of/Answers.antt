use Rattle.std.proofs.Common.{◌≡◌, length, rules}
use Rattle.smi_live_carried.specs.TakingAlong.{AreTaken, all_counts_taken}
use Rattle.smi_live_carried.proofs.Taking.{if_none_suits}
use Rattle.smi_live_carried.proofs.taking_along.carried_of.Goals as goal

pub returns-in-Some-clause-none : goal.returns-in-Some-clause-none
returns-in-Some-clause-none c =
    let d = c.args.domain.now in
    let killed = c.args.killed.now in
    let over = c.args.over.now in
    let counts = c.in_ok-counts.counts.items in
    let names = c.in-Some.names.items in
    let all : counts ≡ all_counts_taken killed over.fates.counts (length d.objects) = search rules in
    let taken : AreTaken over.told over.fates.watched names = search rules in
    if_none_suits d killed over (record { counts = counts; names = names }) c.if_it_suits.result all taken c.if_it_suits.ensures.none
