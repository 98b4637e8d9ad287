-- One more place.
use Rattle.std.proofs.Common.{◌<◌, ◌+◌, All, Contains, sym, subst}
use Rattle.smi_reach.proofs.Lists.{places_more, places_within}
use Rattle.smi_reach.proofs.states.all_places.Goals as goal

pub loop-i-preserved : goal.loop-i-preserved
loop-i-preserved c =
    let n = c.loop-i.i in
    let places = c.loop-i.places.items in
    let items = sym c.in_ok-push.ensures.items in
    record {
      all = λ k lt. subst (λ l. Contains l k) items (places_more places n c.loop-i.invariant.all k lt);
      within = subst (All (λ k. k < n + 1)) items (places_within places n c.loop-i.invariant.within);
    }
