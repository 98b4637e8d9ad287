use Rattle.std.proofs.Common.{refl}
use Rattle.sml_tree.specs.Content.{literal_content}
use Rattle.sml_tree.specs.Form.{Literal}
use Rattle.sml_read_parts.proofs.Args.{literal_text}
use Rattle.sml_read_parts.proofs.Behind.{both_lacked}
use Rattle.sml_read_parts.proofs.reader.Reader.literal.Goals as goal

pub returns-then-stands-2 : goal.returns-then-stands-2
returns-then-stands-2 g c =
    let token = c.take-then-stands-2 in
    literal_text literal_content token.result c.bytes.result.now c.string_literal.result c.args.self.now token.new.self token.ensures c.if-stands-2.ensures c.bytes.ensures c.string_literal.ensures

pub returns : goal.returns
returns g c = both_lacked Literal _ _ c.refusal.result c.args.self.now refl refl c.if-stands.ensures c.if-stands-2.ensures c.refusal.ensures
