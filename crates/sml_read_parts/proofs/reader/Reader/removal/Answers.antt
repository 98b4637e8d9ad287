use Rattle.sml_read_parts.proofs.Steps.{removes}
use Rattle.sml_read_parts.proofs.reader.Reader.removal.Goals as goal

pub returns : goal.returns
returns g c =
    removes c.args.depth _ c.in_ok-member.member c.in_ok-set.set c.take.result c.in_ok-member.ensures.read.0
    c.in_ok-sign.ensures.read.0 c.in_ok-set.ensures.read.0
    c.args.self.now c.take.new.self c.named.new.self c.sign.new.self c.named-2.new.self c.take.ensures c.requires
    (c.in_ok-member.ensures.read.1, c.in_ok-member.ensures.read.2) c.in_ok-member.ensures.read.3
    (c.in_ok-sign.ensures.read.1, c.in_ok-sign.ensures.read.2)
    (c.in_ok-set.ensures.read.1, c.in_ok-set.ensures.read.2) c.in_ok-set.ensures.read.3 c.remove.ensures
