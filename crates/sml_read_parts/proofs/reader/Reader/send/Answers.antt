use Rattle.sml_read_parts.proofs.Steps.{sends}
use Rattle.sml_read_parts.proofs.reader.Reader.send.Goals as goal

pub returns : goal.returns
returns g c =
    sends c.args.depth _ c.in_ok-action.action c.in_ok-target.target _ c.every-all.result c.take.result c.in_ok-action.ensures.read.0 c.in_ok-target.ensures.read.0 c.args.self.now c.take.new.self c.named.new.self c.args-2.new.self c.every-all.new.self c.named-2.new.self
    c.take.ensures c.requires (c.in_ok-action.ensures.read.1, c.in_ok-action.ensures.read.2) c.in_ok-action.ensures.read.3 c.in_ok-args.ensures c.every-all.ensures (c.in_ok-target.ensures.read.1, c.in_ok-target.ensures.read.2) c.in_ok-target.ensures.read.3 c.send.ensures
