use Rattle.std.proofs.Common.{◌∙◌, sym}
use Rattle.smi_log_front.proofs.SumDigits.{other_sum}
use Rattle.smi_log_front.proofs.sums.next_sum.Goals as goal

pub returns-else-is_log_sum-clause-none : goal.returns-else-is_log_sum-clause-none
returns-else-is_log_sum-clause-none c =
    other_sum c.args.text.now c.split_at.result.0.now c.split_at.ensures.front (sym c.is_log_sum.ensures ∙ c.if-is_log_sum.false)
