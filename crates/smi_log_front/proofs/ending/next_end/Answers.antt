use Rattle.smi_log_front.proofs.Heads.{end_read, no_end_feed, no_end_sum, no_end_words}
use Rattle.smi_log_front.proofs.ending.next_end.Goals as goal

pub returns-in_default-clause-none : goal.returns-in_default-clause-none
returns-in_default-clause-none c = no_end_words c.args.text.now c.in_default.ensures

pub returns-in_default-next_sum-clause-none : goal.returns-in_default-next_sum-clause-none
returns-in_default-next_sum-clause-none c =
    no_end_sum c.args.text.now c.in-Some.sums.now c.in-Some.ensures c.in_default-next_sum.ensures.none

pub returns-in-Some-after-clause-some : goal.returns-in-Some-after-clause-some
returns-in-Some-after-clause-some c =
    end_read c.args.text.now c.in-Some.sums.now c.in-Some.ensures _ _ c.in-Some-next_sum.ensures.some.0
    c.in-Some-next_sum.ensures.some.1 _ c.in-Some-after.ensures

pub returns-in-None-clause-none : goal.returns-in-None-clause-none
returns-in-None-clause-none c =
    no_end_feed c.args.text.now c.in-Some.sums.now c.in-Some.ensures _ _ c.in-Some-next_sum.ensures.some.0
    c.in-Some-next_sum.ensures.some.1 c.in-None.ensures
