use Rattle.sml_tree.specs.Content.{literal_content, arg_content}
use Rattle.sml_read_parts.proofs.Args.{arg_written, arg_named}
use Rattle.sml_read_parts.proofs.reader.Reader.arg.Goals as goal

pub returns-then-stands : goal.returns-then-stands
returns-then-stands g c = arg_named c.take.result c.name.result c.args.self.now c.take.new.self c.take.ensures c.if-stands.ensures c.name.ensures

pub returns : goal.returns
returns g c = arg_written literal_content arg_content c.literal.result c.literal_arg.result c.args.self.now c.literal.new.self c.if-stands.ensures c.literal.ensures c.literal_arg.ensures
