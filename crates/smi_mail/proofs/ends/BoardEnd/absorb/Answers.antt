use Rattle.std.proofs.Common.{◌∙◌, ap, sym, refl, length}
use Rattle.smi_mail.specs.Sides.{SessionSide, BoardSide}
use Rattle.smi_mail.specs.Rule.{view_joined}
use Rattle.smi_mail.proofs.Moves.{merges_as}
use Rattle.smi_mail.proofs.Keeping.{end_same}
use Rattle.smi_mail.proofs.ends.BoardEnd.absorb.Goals as goal

pub absorb-requires-clause-rule : goal.absorb-requires-clause-rule
absorb-requires-clause-rule c =
    merges_as _ _ _ _ _ _ c.self.invariant.ties.seen c.end.invariant.0.seen (ap (λ (v : SessionSide). v.seen.session) c.end.view_is ∙ c.requires.order ∙ ap (λ (v : BoardSide). length v.seen.known) (sym c.self.view_is)) c.self.invariant.most

pub invariant_of-self : goal.invariant_of-self
invariant_of-self c =
    end_same _ _ _ _ _ c.self.invariant c.absorb.ensures.queue _
    (c.absorb.ensures.rule ∙ (λ i. view_joined (c.self.invariant.ties.seen i) (c.end.invariant.0.seen i)))
    refl refl refl refl refl refl
