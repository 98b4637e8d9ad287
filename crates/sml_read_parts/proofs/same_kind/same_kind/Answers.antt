use Rattle.sml_read_parts.proofs.Codes.{same_tags, one_kind}
use Rattle.sml_read_parts.proofs.same_kind.same_kind.Goals as goal

pub returns-clause-same : goal.returns-clause-same
returns-clause-same c = same_tags c.args.a c.args.b

pub returns-clause-one : goal.returns-clause-one
returns-clause-one c h = one_kind c.args.a c.args.b h
