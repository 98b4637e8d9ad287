use Rattle.std.proofs.Common.{◌≡◌, ◌-◌, ◌∙◌, ap, sym, subst, arith, refl, length, ⊎_elim, vec_len}
use Rattle.std.specs.Prelude.{slice_get, Vec, Option, option_to_list}
use Rattle.std.specs.Global.{Global}
use Rattle.std.specs.List.{All}
use Rattle.std.proofs.lemmas.List.{length_push}
use Rattle.std.proofs.lemmas.List.Elements.{All-take}
use Rattle.std.proofs.lemmas.Option.{slice_get_read}
use Rattle.std.proofs.lemmas.Iterator.Adapters.{YieldsList-from_vec}
use Rattle.std.proofs.lemmas.Iterator.Consumers.{YieldsList-turn}
use Rattle.smi_journal_entries.specs.declared.letter.Letter.{Letter}
use Rattle.smi_mail.specs.Sides.{BoardSide}
use Rattle.smi_mail.specs.Drains.{IsRoom, IsDrainOf}
use Rattle.smi_mail.proofs.Lists.{slice_get-snoc}
use Rattle.smi_mail.proofs.rows.drain_all.Goals as goal

pub loop-end-preserved : goal.loop-end-preserved
loop-end-preserved g c =
    let i = c.loop-end.invariant in
    let board = c.args.board.items in
    let given = c.into_iter-end-iterator.ensures.into_iter_gives in
    let t = YieldsList-turn (YieldsList-from_vec {s = c.into_iter-end-iterator.result} board given.0 (omega (arith, given.1, c.args.board.ok.0))) c.loop-end.yielded c.loop-end.end-iterator c.loop-end.yielded_by c.next.result c.next.new.self c.in-Some.end c.in-Some.is c.next.ensures.steps in
    let at = slice_get_read board _ (length c.loop-end.yielded) c.in-Some.end refl t.0 t.1 in
    let long = length_push c.loop-end.yielded c.in-Some.end in
    let new : IsDrainOf c.in-Some.end c.drain.result = record { taken = c.drain.ensures.seen.0; sent = c.drain.ensures.seen.1; known = c.drain.ensures.seen.2; settled = c.drain.ensures.settled } in
    let rooms : All (IsRoom i.3.0) c.pop.new.self.items = rw c.pop.ensures.rest (All-take (IsRoom i.3.0) (vec_len c.loop-end.rooms - 1) c.loop-end.rooms.items i.3.2) in (
      omega (arith, i.0, c.pop.ensures.len, ap (λ (r : Option (Vec Letter Global)). length (option_to_list r)) c.unwrap-room.ensures, long),
      omega (arith, c.push_reserved.ensures.len, i.1),
      c.push_reserved.ensures.capacity ∙ i.2,
      (i.3.0, i.3.1, rooms),
      λ o b d was is. ⊎_elim (λ s. i.4 o b d was s)
          (λ (s : (o ≡ length c.loop-end.drained.items) × (c.drain.result ≡ d)). (
          let place : o ≡ length c.loop-end.yielded = omega (arith, s.0, i.1, c.loop-end.drained.ok.0) in
          let same : c.in-Some.end ≡ b = cc (was, at, place) in
          subst (λ (y : BoardSide × BoardSide). IsDrainOf y.0 y.1) (λ j. (same j, s.1 j)) new
          ))
          (slice_get-snoc c.loop-end.drained.items c.drain.result d o (ap (λ l. slice_get l o) (sym c.push_reserved.ensures.items) ∙ is)),
    )
