use Rattle.smi_carried.proofs.Counts.{no_count_read, no_front, no_zero}
use Rattle.smi_carried.proofs.counting.count_in_front.Goals as goal

pub returns-in_err-digits-clause-none : goal.returns-in_err-digits-clause-none
returns-in_err-digits-clause-none c =
    rw c.from_residual.ensures
    (no_front c.args.keyword.now c.args.domain.now c.args.o c.args.text.now c.in_err-digits.ensures)

pub returns-in_err-count-clause-none : goal.returns-in_err-count-clause-none
returns-in_err-count-clause-none c =
    rw c.from_residual-in_err-count.ensures
    (no_count_read c.args.keyword.now c.args.domain.now c.args.o c.args.text.now c.in_ok-digits.digits.now
    c.in_ok-digits.ensures c.in_err-count.ensures.none)

pub returns-else-count-gt0-clause-none : goal.returns-else-count-gt0-clause-none
returns-else-count-gt0-clause-none c =
    no_zero c.args.keyword.now c.args.domain.now c.args.o c.args.text.now c.in_ok-digits.digits.now
    c.in_ok-digits.ensures c.in_ok-count.count c.in_ok-count.more.now c.in_ok-count.ensures.some
    c.in_ok-count.ensures.held c.if-count-gt0.false
