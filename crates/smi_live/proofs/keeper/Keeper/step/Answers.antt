use Rattle.std.proofs.Common.{ap, inr, length}
use Rattle.smi_live.proofs.keeper.Keeper.step.Goals as goal

pub note-requires : goal.note-requires
note-requires c =
    c.laws_of_accounts.ensures.noted c.self.inside.core c.step-answer.new.self c.self.inside.accounts _ (c.step-answer.ensures.setup, inr (c.args.step.now, c.step-answer.result, c.step-answer.ensures.step)) (ap length c.journal-first.ensures.is) c.self.invariant.1
