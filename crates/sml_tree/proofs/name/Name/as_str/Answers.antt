use Rattle.std.proofs.Common.{sym, subst}
use Rattle.std.specs.Str.{IsUtf8}
use Rattle.sml_tree.proofs.Upper.{word_utf8}
use Rattle.sml_tree.proofs.name.Name.as_str.Goals as goal

pub unreachable-requires : goal.unreachable-requires
unreachable-requires c = c.in-Err.ensures.cases.0 (subst IsUtf8 (sym c.as_bytes.ensures.bytes) (word_utf8 c.args.self.now c.as_bytes.ensures.word))
