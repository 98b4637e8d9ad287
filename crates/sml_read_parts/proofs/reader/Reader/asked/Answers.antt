use Rattle.std.proofs.Common.{ap, length, arith}
use Rattle.std.proofs.lemmas.Bool.{lt-ltb, le-ltb}
use Rattle.sml_read_parts.proofs.Stopped.{handed}
use Rattle.sml_read_parts.proofs.Asked.{object_asked, set_asked, set_refused, test_too_many}
use Rattle.sml_read_parts.proofs.reader.Reader.asked.Goals as goal
use Rattle.sml_tree.specs.declared.limits.TheConstants.{MAX_TESTS}

pub returns-then-tests-ge-MAX_TESTS-clause-read : goal.returns-then-tests-ge-MAX_TESTS-clause-read
returns-then-tests-ge-MAX_TESTS-clause-read c =
    let full = le-ltb c.args.tests MAX_TESTS c.if-tests-ge-MAX_TESTS.true in
    λ depth. rw c.at.ensures (test_too_many c.args.scope depth c.args.tests c.take-held.result c.args.self.now c.take-held.new.self c.take-held.ensures c.requires full)

pub returns-in-One-clause-read : goal.returns-in-One-clause-read
returns-in-One-clause-read c =
    let room = lt-ltb c.args.tests MAX_TESTS c.if-tests-ge-MAX_TESTS.false in (
      omega (arith, ap length c.take-held.ensures),
      λ depth. object_asked c.args.scope depth c.args.tests c.take-held.result c.name.result c.args.self.now c.take-held.new.self c.in-One.is c.take-held.ensures c.requires room c.name.ensures,
    )

pub returns-in_ok-expect-in-All-clause-read : goal.returns-in_ok-expect-in-All-clause-read
returns-in_ok-expect-in-All-clause-read c =
    let room = lt-ltb c.args.tests MAX_TESTS c.if-tests-ge-MAX_TESTS.false in (
      omega (arith, ap length c.take-held.ensures, ap length c.in_ok-expect-in-All.ensures.0),
      λ depth. set_asked c.args.scope depth c.args.tests c.take-held.result c.in_ok-expect-in-All.field-0 c.name-in-All.result c.args.self.now c.take-held.new.self c.expect.new.self c.in-All.is c.take-held.ensures c.requires
          room c.in_ok-expect-in-All.ensures c.name-in-All.ensures,
    )

-- no name is behind the word of a set
pub returns-in_err-expect-in-All-clause-read : goal.returns-in_err-expect-in-All-clause-read
returns-in_err-expect-in-All-clause-read c =
    let room = lt-ltb c.args.tests MAX_TESTS c.if-tests-ge-MAX_TESTS.false in
    rw (handed _ c.in_err-expect-in-All.field-0.0 c.from_residual.ensures.1)
    (λ depth. set_refused c.args.scope depth c.args.tests c.take-held.result c.args.self.now c.take-held.new.self c.expect.new.self c.in_err-expect-in-All.field-0.0 c.in-All.is c.take-held.ensures c.requires
    room c.in_err-expect-in-All.ensures)
