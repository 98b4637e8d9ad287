-- A start by name is one by number.
use Rattle.std.proofs.Common.{◌∙◌, ap, sym}
use Rattle.sml_domain.specs.Lookups.{object_named}
use Rattle.smi_core.proofs.machine.Machine.start.Goals as goal

pub returns : goal.returns
returns c = c.start_at.ensures c.args.object.now (sym (c.in-Some.ensures.is ∙ ap (λ d. object_named d c.args.object.now) c.domain.ensures))
