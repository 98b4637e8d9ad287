use Rattle.std.proofs.Common.{◌∙◌, ap, sym, subst}
use Rattle.crossbeam_queue.specs.Passes.{view}
use Rattle.smi_mail.specs.Sides.{BoardSide, board_view}
use Rattle.smi_mail.specs.declared.rule.BoardView.{BoardView}
use Rattle.smi_mail.specs.Rule.{IsWhole}
use Rattle.smi_mail.proofs.Moves.{drains_as}
use Rattle.smi_mail.proofs.Keeping.{nothing_left}
use Rattle.smi_mail.proofs.ends.BoardEnd.drain.Goals as goal

pub pop_as-requires-clause-rule : goal.pop_as-requires-clause-rule
pop_as-requires-clause-rule g c = drains_as _ _ _ c.loop-envelope.invariant.0.seen (subst (λ (v : BoardSide). IsWhole v.seen) (sym c.self.view_is) c.requires.whole)

pub invariant_of-drained : goal.invariant_of-drained
invariant_of-drained g c =
    let held = c.in_default.ensures.rule.1 in
    nothing_left _ _ (board_view (view c.self.inside.pass)) _ _ _ c.loop-envelope.invariant.0.seen c.in_default.ensures.rule.0 held.1 held.2

pub returns-clause-seen : goal.returns-clause-seen
returns-clause-seen g c =
    let is = ap board_view (c.in_default.ensures.rule.0 ∙ c.loop-envelope.invariant.0.seen) in
    let was = c.self.view_is in
    (ap (λ (b : BoardView). b.taken) is ∙ ap (λ (v : BoardSide). v.seen.taken) was, ap (λ (b : BoardView). b.sent) is ∙ ap (λ (v : BoardSide). v.seen.sent) was, ap (λ (b : BoardView). b.known) is ∙ ap (λ (v : BoardSide). v.seen.known) was)
