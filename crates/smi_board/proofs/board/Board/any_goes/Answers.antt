-- Where no candidate can continue, none can.
use Rattle.std.proofs.Common.{arith, ◌∙◌, refl, subst, sym}
use Rattle.std.proofs.lemmas.Bool.{true≢false}
use Rattle.smi_board.specs.Boards.{BoardView}
use Rattle.smi_board.specs.Looks.{ArePlaced}
use Rattle.smi_board.proofs.Looks.{all_looked}
use Rattle.smi_board.proofs.board.Board.any_goes.Goals as goal

pub returns-then-can_go_on : goal.returns-then-can_go_on
returns-then-can_go_on g c =
    (λ e. absurd (true≢false e), λ n. absurd (true≢false (sym (sym c.can_go_on.ensures ∙ c.if-can_go_on.true) ∙ n _)))

pub returns : goal.returns
returns g c =
    let i = c.self.inside in
    let inv = c.loop-place.invariant in
    let placed = subst (λ (b : BoardView _). ArePlaced b.domain b.journal b.kept i.candidates.list i.holders) c.self.view_is c.self.invariant.5 in
    (λ e. all_looked _ _ _ i.candidates.list i.holders c.loop-place.place placed inv.looked (omega (arith, inv.count, c.loop-place-test.false)), λ n. refl)
