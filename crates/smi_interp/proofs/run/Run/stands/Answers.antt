-- What is left once the last readings have picked.
use Rattle.std.proofs.Common.{◌≡◌, ◌-◌, ◌++◌, ◌∷◌, ◌∙◌, [], ap, length, subst}
use Rattle.std.specs.List.{slice_get}
use Rattle.std.specs.Arc.{arc_value}
use Rattle.smi_interp.specs.Cursor.{left_in, Follows, PicksLast}
use Rattle.smi_interp.specs.Run.{here}
use Rattle.smi_interp.proofs.Picking.{branch_left}
use Rattle.smi_interp.proofs.run.Run.stands.Goals as goal

pub returns-then-self : goal.returns-then-self
returns-then-self c =
    let r = c.args.self.now in
    let d = arc_value r.domain in
    let branch = c.branch_by.result in
    let next = c.next_of.result in
    let last : PicksLast d (slice_get r.turn.moves.items (length r.turn.moves.items - 1)) (here r) (left_in d branch) =
    subst (λ ms. PicksLast d (slice_get ms (length ms - 1)) (here r) (left_in d branch)) c.deref-then-self-3.ensures.value
    (subst (λ d. PicksLast d (slice_get c.deref-then-self-3.result.now (length c.deref-then-self-3.result.now - 1)) (left_in d r.at) (left_in d branch)) c.deref-then-self-2.ensures c.branch_by.ensures) in
    let follows : Follows (here r) (left_in d next) = subst (λ d. Follows (left_in d r.at) (left_in d next)) c.deref-then-self.ensures c.next_of.ensures in
    let copied : c.extend_from_slice.new.self.items ≡ r.later.items =
    c.in_ok-extend_from_slice.ensures.items ∙ ap (λ ps. ps ++ c.deref.result.now) c.requires.empty ∙ c.deref.ensures.value in
    branch_left r branch next c.push.new.self.items c.requires.sound c.if-self.true last follows
    (c.in_ok-push.ensures.items ∙ ap (λ ps. ps ++ next ∷ []) copied)
