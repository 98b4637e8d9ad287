use Rattle.sml_read_parts.proofs.Steps.{moves}
use Rattle.sml_read_parts.proofs.reader.Reader.movement.Goals as goal

pub returns : goal.returns
returns g c =
    moves c.args.depth _ c.in_ok-state.state c.take.result c.in_ok-state.ensures.read.0 c.args.self.now c.take.new.self c.named.new.self c.take.ensures c.requires (c.in_ok-state.ensures.read.1, c.in_ok-state.ensures.read.2) c.in_ok-state.ensures.read.3 c.move_to.ensures
