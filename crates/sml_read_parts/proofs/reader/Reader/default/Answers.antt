use Rattle.sml_tree.specs.Content.{literal_content}
use Rattle.sml_read_parts.proofs.Params.{default_none, default_read}
use Rattle.sml_read_parts.proofs.reader.Reader.default.Goals as goal

pub returns-then-not-skip : goal.returns-then-not-skip
returns-then-not-skip g c = default_none c.args.self.now c.skip.new.self c.if-not-skip.ensures.0 c.if-not-skip.ensures.1

pub returns : goal.returns
returns g c = default_read literal_content c.literal.result c.as_some.result c.args.self.now c.skip.new.self c.literal.new.self c.as_some.ensures c.if-not-skip.ensures c.literal.ensures
