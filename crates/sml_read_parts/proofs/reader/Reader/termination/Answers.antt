use Rattle.sml_read_parts.proofs.Steps.{terminates}
use Rattle.sml_read_parts.proofs.reader.Reader.termination.Goals as goal

pub returns : goal.returns
returns g c =
    terminates c.args.depth _ c.in_ok-state.state c.take.result c.in_ok-sign.ensures.read.0 c.in_ok-sign-2.ensures.read.0 c.in_ok-sign-3.ensures.read.0 c.in_ok-state.ensures.read.0
    c.args.self.now c.take.new.self c.sign.new.self c.sign-2.new.self c.sign-3.new.self c.named.new.self c.take.ensures c.requires
    (c.in_ok-sign.ensures.read.1, c.in_ok-sign.ensures.read.2) (c.in_ok-sign-2.ensures.read.1, c.in_ok-sign-2.ensures.read.2) (c.in_ok-sign-3.ensures.read.1, c.in_ok-sign-3.ensures.read.2) (c.in_ok-state.ensures.read.1, c.in_ok-state.ensures.read.2) c.in_ok-state.ensures.read.3 c.terminate.ensures
