use Rattle.smi_log_front.proofs.Heads.{head_read, no_head_number, no_head_room, no_head_sum, no_head_words}
use Rattle.smi_log_front.proofs.head.next_head.Goals as goal

pub returns-in_default-clause-none : goal.returns-in_default-clause-none
returns-in_default-clause-none c = no_head_words c.args.text.now c.in_default.ensures

pub returns-in_default-next_sum-clause-none : goal.returns-in_default-next_sum-clause-none
returns-in_default-next_sum-clause-none c =
    no_head_sum c.args.text.now c.in-Some.sums.now c.in-Some.ensures c.in_default-next_sum.ensures.none

pub returns-in_default-after-clause-none : goal.returns-in_default-after-clause-none
returns-in_default-after-clause-none c =
    no_head_room c.args.text.now c.in-Some.sums.now c.in-Some.ensures _ _ c.in-Some-next_sum.ensures.some.0
    c.in-Some-next_sum.ensures.some.1 c.in_default-after.ensures

pub returns-in_default-next_number-clause-none : goal.returns-in_default-next_number-clause-none
returns-in_default-next_number-clause-none c =
    no_head_number c.args.text.now c.in-Some.sums.now c.in-Some.ensures _ _ c.in-Some-next_sum.ensures.some.0
    c.in-Some-next_sum.ensures.some.1 c.in-Some-after.digits.now c.in-Some-after.ensures
    c.in_default-next_number.ensures.none

pub returns-clause-some : goal.returns-clause-some
returns-clause-some c =
    head_read c.args.text.now c.in-Some.sums.now c.in-Some.ensures _ _ c.in-Some-next_sum.ensures.some.0
    c.in-Some-next_sum.ensures.some.1 c.in-Some-after.digits.now c.in-Some-after.ensures
    c.in-Some-next_number.capacity _ c.in-Some-next_number.ensures.some c.in-Some-next_number.ensures.held
