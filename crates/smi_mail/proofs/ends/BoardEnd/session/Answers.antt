use Rattle.std.proofs.Common.{◌∙◌, ap, refl}
use Rattle.smi_mail.specs.Rule.{with_session}
use Rattle.smi_mail.proofs.Moves.{seats_as}
use Rattle.smi_mail.proofs.Keeping.{end_same}
use Rattle.smi_mail.proofs.ends.BoardEnd.session.Goals as goal

pub another-pass-requires-clause-rule : goal.another-pass-requires-clause-rule
another-pass-requires-clause-rule c = seats_as _ _ _ c.self.invariant.ties.seen

pub invariant_of-self : goal.invariant_of-self
invariant_of-self c = end_same _ _ _ _ _ c.self.invariant c.another-pass.ensures.queue.0 _ (c.another-pass.ensures.rule.0 ∙ ap with_session c.self.invariant.ties.seen) refl refl refl refl refl refl
