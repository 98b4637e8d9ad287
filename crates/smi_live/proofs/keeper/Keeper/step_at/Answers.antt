use Rattle.std.proofs.Common.{ap, inr, length}
use Rattle.smi_live.proofs.keeper.Keeper.step_at.Goals as goal

pub note-requires : goal.note-requires
note-requires c =
    c.laws_of_accounts.ensures.noted c.self.inside.core c.step_at-answer.new.core c.self.inside.accounts _ (c.step_at-answer.ensures.setup, inr (c.args.step.now, c.step_at-answer.result, c.step_at-answer.ensures.steps)) (ap length c.journal-first.ensures.is) c.self.invariant.1
