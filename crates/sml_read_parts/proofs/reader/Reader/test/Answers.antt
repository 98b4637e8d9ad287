use Rattle.std.proofs.Common.{arith}
use Rattle.sml_read_parts.proofs.Asked.{test_read, sense_refused, states_refused}
use Rattle.sml_read_parts.proofs.Stopped.{handed}
use Rattle.sml_read_parts.proofs.reader.Reader.test.Goals as goal

pub returns-clause-read : goal.returns-clause-read
returns-clause-read g c = (
  omega (arith, c.in_ok-name.ensures.read.0, c.in_ok-negated.ensures.0, c.in_ok-states.ensures.0),
  test_read c.args.scope c.args.depth c.args.tests.now c.in_ok-name.name c.in_ok-negated.negated _ _ c.args.self.now c.asked.new.self c.sense.new.self c.state_list.new.self
      (c.in_ok-name.ensures.read.1 c.args.depth) c.in_ok-negated.ensures.1 c.in_ok-states.ensures.1 c.test.ensures,
)

pub returns-in_err-name-clause-read : goal.returns-in_err-name-clause-read
returns-in_err-name-clause-read g c = rw (handed _ _ c.from_residual.ensures.1) (c.in_err-name.ensures.read c.args.depth)

pub returns-in_err-negated-clause-read : goal.returns-in_err-negated-clause-read
returns-in_err-negated-clause-read g c =
    let asked = c.in_ok-name.ensures.read.1 c.args.depth in
    rw (handed _ _ c.from_residual-in_err-negated.ensures.1) (sense_refused c.args.scope c.args.depth c.args.tests.now c.in_ok-name.name c.args.self.now c.asked.new.self c.in_err-negated.field-0.0 asked c.in_err-negated.ensures)

pub returns-in_err-states-clause-read : goal.returns-in_err-states-clause-read
returns-in_err-states-clause-read g c =
    let asked = c.in_ok-name.ensures.read.1 c.args.depth in
    rw (handed _ _ c.from_residual-in_err-states.ensures.1)
    (states_refused c.args.scope c.args.depth c.args.tests.now c.in_ok-name.name c.in_ok-negated.negated c.args.self.now c.asked.new.self c.sense.new.self c.in_err-states.field-0.0 asked c.in_ok-negated.ensures.1 c.in_err-states.ensures)
