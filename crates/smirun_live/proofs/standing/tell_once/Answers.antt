use Rattle.std.proofs.Common.{◌≡◌, ◌∙◌, sym, ap, subst, Some, slice_get}
use Rattle.sml_writer.proofs.Telling.{tells_again, then_tells}
use Rattle.smi_request_fates.specs.Kept.{WatchedView}
use Rattle.smirun_live.specs.Standing.{stands_now}
use Rattle.smirun_live.proofs.Counts.{once_is}
use Rattle.smirun_live.proofs.standing.tell_once.Goals as goal

pub returns-in-Some : goal.returns-in-Some
returns-in-Some g c =
    let a = c.args.accounts.now in
    let told = subst (λ ts. slice_get ts c.args.place ≡ Some (record { name = c.at-known.result.name.now; number = c.at-known.result.number; answer = c.at-known.result.answer.now })) c.told.ensures c.at-known.ensures in
    tells_again (then_tells c.say.ensures (then_tells c.say-in-Some.ensures (then_tells c.tell_number.ensures c.tell_came.ensures)))
    (once_is c.args.domain.now a.fates.counts a.told a.fates.watched c.args.place _ c.in-Some.watched c.stands-now.result told (sym c.watched.ensures ∙ c.in-Some.is)
    (c.stands-now.ensures ∙ ap (λ (w : WatchedView). stands_now a.fates.counts w.object) c.watched-in-Some.view_is))
