use Rattle.sml_read_parts.proofs.Steps.{sets}
use Rattle.sml_read_parts.proofs.reader.Reader.assignment.Goals as goal

pub returns : goal.returns
returns g c =
    sets c.args.depth _ c.in_ok-param.param _ c.take.result c.in_ok-param.ensures.read.0 c.in_ok-sign.ensures.read.0 c.args.self.now c.take.new.self c.named.new.self c.sign.new.self c.arg.new.self
    c.take.ensures c.requires (c.in_ok-param.ensures.read.1, c.in_ok-param.ensures.read.2) c.in_ok-param.ensures.read.3 (c.in_ok-sign.ensures.read.1, c.in_ok-sign.ensures.read.2) c.in_ok-value.ensures c.set.ensures
