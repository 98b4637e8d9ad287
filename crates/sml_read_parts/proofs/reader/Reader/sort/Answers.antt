use Rattle.std.proofs.Common.{refl}
use Rattle.sml_tree.specs.Form.{Sort}
use Rattle.sml_read_parts.proofs.Behind.{both_lacked}
use Rattle.sml_read_parts.proofs.reader.Reader.sort.Goals as goal

pub returns-clause-read : goal.returns-clause-read
returns-clause-read c = both_lacked (Sort c.args.before) _ _ c.refusal.result c.args.self.now refl refl c.if-stands.ensures c.if-stands-2.ensures c.refusal.ensures
