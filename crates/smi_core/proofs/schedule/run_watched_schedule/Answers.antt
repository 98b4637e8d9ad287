use Rattle.smi_core.specs.Output.{LineWrites}
use Rattle.std.proofs.Common.{[], ◌++◌, ◌≤◌, Err, ap, arith, length, take, inl, inr, refl}
use Rattle.std.proofs.lemmas.Grind.{common_steps}
use Rattle.std.proofs.Common.{length-append, length-take-le}
use Rattle.smi_core.proofs.Io.{consumes_none, consumes_more, consumes_kept, consumes_empty}
use Rattle.smi_core.proofs.Parts.{went_none, went_more, halted_more, halted_here, halted_now, first_lines, whole, torn, whole_lines}
use Rattle.smi_core.proofs.schedule.run_watched_schedule.Goals as goal

pub returns-in_default-clause-err : goal.returns-in_default-clause-err
returns-in_default-clause-err g c =
    let s = c.reads.invariant.so_far in
    (s.0, consumes_kept _ _ _ _ s.1 c.in_default.ensures.none.1, first_lines LineWrites _ s.0 _ _ _ _ _ _ (λ f. f) (halted_now LineWrites _ _ _ _ _ _ _ _ _ s.3), inl (omega (arith, s.2, c.reads.invariant.most)))

pub returns-then-n-total-clause-err : goal.returns-then-n-total-clause-err
returns-then-n-total-clause-err g c =
    let s = c.reads.invariant.so_far in
    (s.0 ++ take c.in-Some.n c.fetch.new.buf, consumes_more _ _ _ _ _ s.1 c.in-Some.ensures.some.1, first_lines LineWrites _ _ _ _ _ _ _ _ (λ f. f) (halted_here LineWrites _ _ _ _ _ _ _ _ _ _ s.3), inr refl)

pub returns-in-Err-clause-err : goal.returns-in-Err-clause-err
returns-in-Err-clause-err g c =
    let s = c.reads.invariant.so_far in
    (s.0 ++ take c.in-Some.n c.fetch.new.buf, consumes_more _ _ _ _ _ s.1 c.in-Some.ensures.some.1, first_lines LineWrites _ _ _ _ _ _ _ _ (λ e. e) (halted_more LineWrites _ _ _ _ _ _ _ _ _ _ _ _ s.3 c.in-Err.ensures.err), inl (omega (arith, s.2, c.reads.invariant.most, c.if-n-total.false, length-take-le c.in-Some.n c.fetch.new.buf c.in-Some.ensures.some.0, length-append s.0 (take c.in-Some.n c.fetch.new.buf))))

-- nothing is read, fed or kept yet
pub reads-init : goal.reads-init
reads-init g c = record {
  most = omega (arith);
  room = refl;
  so_far = ([], consumes_none _, refl, went_none LineWrites _ [] _ _ _ (c.new.ensures.items, omega (arith)));
}

pub reads-preserved : goal.reads-preserved
reads-preserved g c =
    let s = c.reads.invariant.so_far in
    let n = c.in-Some.n in
    let fits : n ≤ length c.fetch.new.buf = grind (arith, common_steps, c.in-Some.ensures.some.0) in
    record {
      most = omega (arith, c.reads.invariant.most);
      room = omega (arith, c.fetch.auto.buf, c.reads.invariant.room);
      so_far = (
        s.0 ++ take n c.fetch.new.buf,
        consumes_more _ _ _ _ _ s.1 c.in-Some.ensures.some.1,
        omega (arith, s.2, length-take-le c.in-Some.n c.fetch.new.buf c.in-Some.ensures.some.0, length-append s.0 (take n c.fetch.new.buf)),
        went_more LineWrites _ _ _ _ _ _ _ _ _ _ _ _ _ s.3 c.in_default-feed_read.ensures.ok,
      );
    }

pub returns-then-n-total-clause-too_long : goal.returns-then-n-total-clause-too_long
returns-then-n-total-clause-too_long g c e =
    let s = c.reads.invariant.so_far in
    let n = c.in-Some.n in (
      s.0,
      take n c.fetch.new.buf,
      consumes_more _ _ _ _ _ s.1 c.in-Some.ensures.some.1,
      omega (arith, s.2, length-take-le n c.fetch.new.buf c.in-Some.ensures.some.0, length-append s.0 (take n c.fetch.new.buf)),
      whole_lines LineWrites _ _ _ _ _ _ _ s.3,
    )

pub returns-in_default-clause-cut : goal.returns-in_default-clause-cut
returns-in_default-clause-cut g c e =
    let s = c.reads.invariant.so_far in
    (s.0, consumes_kept _ _ _ _ s.1 c.in_default.ensures.none.1, whole_lines LineWrites _ _ _ _ _ _ _ s.3)

pub returns-in-Ok-clause-ok : goal.returns-in-Ok-clause-ok
returns-in-Ok-clause-ok g c =
    let s = c.reads.invariant.so_far in
    let h = c.in-Ok.ensures.ok s.3.left s.3.pending in (
      s.0,
      consumes_empty _ _ _ _ _ _ c.if-n-eq0.true s.1 c.in-Some.ensures.some.1,
      c.in-Some.ensures.some.2 c.if-n-eq0.true (omega (arith, c.fetch.auto.buf, c.reads.invariant.room)),
      omega (arith, s.2, c.reads.invariant.most),
      whole LineWrites _ _ _ _ _ _ _ _ _ s.3 h.0 h.1 h.2,
    )

pub returns-clause-err : goal.returns-clause-err
returns-clause-err g c =
    let s = c.reads.invariant.so_far in (
      s.0,
      consumes_empty _ _ _ _ _ _ c.if-n-eq0.true s.1 c.in-Some.ensures.some.1,
      torn LineWrites _ _ _ _ _ _ _ _ _ _ _ _ (c.in-Some.ensures.some.2 c.if-n-eq0.true (omega (arith, c.fetch.auto.buf, c.reads.invariant.room))) (λ e. ap Err (c.of_schedule.ensures.write.1 (cc e))) s.3 (c.in-Err-end_line.ensures.err s.3.left s.3.pending),
      inl (omega (arith, s.2, c.reads.invariant.most)),
    )
