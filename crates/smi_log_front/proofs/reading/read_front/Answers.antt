use Rattle.std.proofs.Common.{◌≡◌, ◌∙◌, ◌+◌, [], ap, arith, inr, length, length-append, subst}
use Rattle.smi_outset_text.specs.Lines.{IsFirstBadLine, outset_lines}
use Rattle.smi_outset_text.specs.Reading.{FaultIsIn}
use Rattle.smi_log_front.specs.Front.{FrontView}
use Rattle.smi_log_front.specs.FrontText.{front_begin, front_head}
use Rattle.smi_log_front.proofs.LineCounts.{bad_fits}
use Rattle.smi_log_front.proofs.Wholes.{front_begins}
use Rattle.smi_log_front.proofs.reading.read_front.Goals as goal

pub fault_of_outset-requires : goal.fault_of_outset-requires
fault_of_outset-requires c = λ count e.
    let d = c.args.domain.now in
    let standing = c.in-Some.standing.now in
    let head = front_head c.in-Some.head.sum.now c.in-Some.head.capacity in
    let bad : IsFirstBadLine d (outset_lines d) standing count
    = subst (FaultIsIn d (outset_lines d) standing) e c.in-Err.ensures.fault in
    let fits = bad_fits d (outset_lines d) standing count bad in
    let size : length c.args.text.now ≡ length head + length standing
    = ap length c.in-Some.ensures.some.says ∙ length-append head standing in
    omega (arith, fits, size)

pub returns-in-Err-clause-fault : goal.returns-in-Err-clause-fault
returns-in-Err-clause-fault c =
    c.fault_of_outset.ensures c.args.domain.now c.args.text.now c.in-Some.head.sum.now c.in-Some.head.capacity
    c.in-Some.standing.now c.in-Some.ensures.some c.in-Err.ensures.fault

pub returns-in_default-next_end-clause-fault : goal.returns-in_default-next_end-clause-fault
returns-in_default-next_end-clause-fault c =
    let d = c.args.domain.now in
    let read = c.in-Ok-read_past.past in
    let front : FrontView
    = record {
      domain_sum = c.in-Some.head.sum.now;
      capacity = c.in-Some.head.capacity;
      outset = c.in-Ok.outset.0;
      carried = read.0.carried;
      kills = read.0.kills.items;
      log_sum = [];
    } in
    let begins = front_begins d front c.args.text.now c.in-Some.standing.now c.in-Ok.outset.1.now read.1.now
    c.in-Some.ensures.some.says c.in-Ok.ensures.whole c.in-Ok-read_past.ensures.says in
    let count = c.lines_before.ensures.is (front_begin d front) begins in
    inr (inr (record {
      front = front;
      standing = c.in-Some.standing.now;
      past = c.in-Ok.outset.1.now;
      rest = read.1.now;
      head = c.in-Some.ensures.some;
      suits = c.in-Ok.ensures.suits;
      held = c.in-Ok.ensures.held;
      outset = c.in-Ok.ensures.whole;
      read = c.in-Ok-read_past.ensures;
      none = c.in_default-next_end.ensures.none;
      number = omega (arith, count);
    }))
