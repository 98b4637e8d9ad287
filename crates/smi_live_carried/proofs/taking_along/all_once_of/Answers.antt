use Rattle.std.proofs.Common.{rules, subst, ◌<◌, length}
use Rattle.std.specs.Prelude.{IfNone}
use Rattle.smi_live_carried.specs.TakingAlong.{IsNotTaken}
use Rattle.smi_live_carried.proofs.Taking.{none_taken}
use Rattle.smi_live_carried.proofs.taking_along.all_once_of.Goals as goal

pub returns-in-None-clause-none : goal.returns-in-None-clause-none
returns-in-None-clause-none c =
    let over = c.args.over.now in
    let place = c.loop-place.place in
    let there : place < length over.told = search rules in
    let none : IsNotTaken over.told over.fates.watched place
    = subst (λ r. IfNone r (IsNotTaken over.told over.fates.watched place)) c.in-None.is c.in_ok-once.ensures.none in
    none_taken over.told over.fates.watched place there none
