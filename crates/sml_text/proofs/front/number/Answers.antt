use Rattle.std.proofs.Common.{arith}
use Rattle.sml_text.specs.Bytes.{is_digit}
use Rattle.sml_text.proofs.Spans.{each_at}
use Rattle.sml_text.proofs.Numbers.{too_much, digit_least}
use Rattle.sml_text.proofs.front.number.Goals as goal

pub returns-in_err-checked_mul : goal.returns-in_err-checked_mul
returns-in_err-checked_mul c =
    rw c.from_residual.ensures
    (too_much c.args.digits.now c.loop-c.c-index c.loop-c-test.true (omega (arith, c.loop-c.invariant, c.in_err-checked_mul.ensures)))

pub overflow_sub-c : goal.overflow_sub-c
overflow_sub-c c = digit_least _ (each_at is_digit c.args.digits.now c.loop-c.c-index c.requires c.loop-c-test.true)

pub returns-in_err-number : goal.returns-in_err-number
returns-in_err-number c =
    rw c.from_residual-in_err-number.ensures
    (too_much c.args.digits.now c.loop-c.c-index c.loop-c-test.true (omega (arith, c.loop-c.invariant, c.in_ok-checked_mul.ensures, c.in_err-number.ensures)))
