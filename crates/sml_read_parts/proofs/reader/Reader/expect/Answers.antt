use Rattle.sml_read_parts.proofs.Behind.{token_lacked}
use Rattle.sml_read_parts.proofs.Steps.{seen}
use Rattle.sml_read_parts.proofs.reader.Reader.expect.Goals as goal

pub returns-then-stands : goal.returns-then-stands
returns-then-stands c = (c.take.ensures, seen c.args.kind c.take.result c.args.self.now c.take.new.self c.take.ensures c.if-stands.ensures)

pub returns : goal.returns
returns c = token_lacked c.args.kind c.refusal.result c.args.self.now c.args.self.now c.if-stands.ensures c.refusal.ensures
