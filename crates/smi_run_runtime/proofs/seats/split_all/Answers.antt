use Rattle.std.proofs.Common.{◌+◌, ◌≡◌, ◌<◌, ◌∙◌, ◌++◌, ◌∷◌, [], ap, sym, subst, rules, arith, refl, ℕ, List, length, get_or, map, Some, Option}
use Rattle.std.specs.Prelude.{slice_get}
use Rattle.std.proofs.lemmas.List.{length_push}
use Rattle.std.proofs.lemmas.Option.{slice_get_read}
use Rattle.std.proofs.lemmas.Iterator.Adapters.{YieldsList-from_vec}
use Rattle.std.proofs.lemmas.Iterator.Consumers.{YieldsList-turn}
use Rattle.smi_mail.specs.Mails.{OperatorSide}
use Rattle.smi_run_report.specs.declared.told.Accepted.{Accepted}
use Rattle.smi_run_runtime.specs.Sessions.{SessionBook}
use Rattle.smi_run_runtime.specs.Closing.{closed_of, AreSeats}
use Rattle.smi_run_report.specs.Told.{rows_of, accepted_of}
use Rattle.smi_run_runtime.proofs.Places.{ends_more, found_is}
use Rattle.smi_run_runtime.proofs.seats.split_all.Goals as goal

some_same : {A : Type 0} (x y : A) → Some x ≡ Some y → x ≡ y
some_same x y e = cc

pub unreachable-requires : goal.unreachable-requires
unreachable-requires g c =
    let i = c.loop-slot.invariant in
    let slots = c.place_all-slots.result.items in
    let given = c.into_iter-slot-iterator.ensures.into_iter_gives in
    let t = YieldsList-turn (YieldsList-from_vec {s = c.into_iter-slot-iterator.result} slots given.0 (omega (arith, given.1, c.place_all-slots.result.ok.0))) c.loop-slot.yielded c.loop-slot.slot-iterator c.loop-slot.yielded_by c.next.result c.next.new.self c.in-Some.slot c.in-Some.is c.next.ensures.steps in
    let k = length c.loop-slot.yielded in
    let at = slice_get_read slots _ k c.in-Some.slot refl t.0 t.1 in
    let lt : k < c.args.sessions = omega (arith, t.0, c.place_all-slots.ensures.long) in
    let is : c.in-Some.slot ≡ closed_of c.args.closed.items (k + 1) = some_same _ _ (sym at ∙ c.place_all-slots.ensures.each k lt) in
    c.in_default.not-Some (c.requires.all k lt).0 (is ∙ (c.requires.all k lt).1)

pub loop-slot-preserved : goal.loop-slot-preserved
loop-slot-preserved g c =
    let i = c.loop-slot.invariant in
    let slots = c.place_all-slots.result.items in
    let given = c.into_iter-slot-iterator.ensures.into_iter_gives in
    let t = YieldsList-turn (YieldsList-from_vec {s = c.into_iter-slot-iterator.result} slots given.0 (omega (arith, given.1, c.place_all-slots.result.ok.0))) c.loop-slot.yielded c.loop-slot.slot-iterator c.loop-slot.yielded_by c.next.result c.next.new.self c.in-Some.slot c.in-Some.is c.next.ensures.steps in
    let k = length c.loop-slot.yielded in
    let at = slice_get_read slots _ k c.in-Some.slot refl t.0 t.1 in
    let lt : k < c.args.sessions = omega (arith, t.0, c.place_all-slots.ensures.long) in
    let is : c.in-Some.slot ≡ closed_of c.args.closed.items (k + 1) = some_same _ _ (sym at ∙ c.place_all-slots.ensures.each k lt) in
    let long = length_push c.loop-slot.yielded c.in-Some.slot in
    let one : closed_of c.args.closed.items (k + 1) ≡ Some c.in-Some-slot.one = sym is ∙ c.in-Some-slot.is in
    let shown = c.session.view_is ∙ c.one.view_is in
    let place : c.session.inside.end.session ≡ k + 1 = ap (λ (x : SessionBook). x.session) shown ∙ found_is c.args.closed.items (k + 1) c.in-Some-slot.one one in
    let rows : rows_of c.session.inside.accepted.items ≡ c.in-Some-slot.one.accepted = ap (λ (x : SessionBook). x.accepted) shown in (
      c.push_reserved.ensures.capacity ∙ i.0,
      c.push_reserved-in-loop-slot.ensures.capacity ∙ i.1,
      rw (long, c.push_reserved.ensures.items, c.push_reserved-in-loop-slot.ensures.items)
          (ends_more k c.args.closed.items c.loop-slot.ends.items c.loop-slot.accepted.items c.in-Some-slot.one c.session.inside.end c.session.inside.accepted i.2 one place rows (sym rows ∙ c.session.invariant.0)),
    )
