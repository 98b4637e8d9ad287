use Rattle.std.proofs.Common.{ap, ◌∙◌}
use Rattle.sml_tree.specs.Piece.{Piece}
use Rattle.sml_read_parts.proofs.Naming.{str_held}
use Rattle.sml_read_parts.proofs.held.Held.bytes.Goals as goal

pub unreachable-requires : goal.unreachable-requires
unreachable-requires c = str_held c.self.inside.kind c.self.inside.token c.self.invariant (ap (λ (p : Piece). p.kind) c.self.view_is ∙ c.requires) c.in_default.not-Str
