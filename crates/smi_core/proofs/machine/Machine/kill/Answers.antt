-- The entry that closes.
use Rattle.std.proofs.Common.{◌<◌, ◌∙◌, length, ap, subst}
use Rattle.sml_domain.specs.Lookups.{object_named}
use Rattle.smi_core.proofs.Closed.{kill_steps}
use Rattle.smi_core.proofs.machine.Machine.kill.Goals as goal

pub returns-in-Ok : goal.returns-in-Ok
returns-in-Ok c = kill_steps _ _ _ _ c.told.ensures c.requires (subst (λ d. c.in-Some.o < length d.objects) c.domain.ensures c.in-Some.ensures.within) (c.in-Some.ensures.is ∙ ap (λ d. object_named d c.args.object.now) c.domain.ensures) _ _ _ _ _ c.in-Ok.ensures.free c.in-Ok.ensures.killed c.keep.ensures c.journal-first.ensures.is c.entries_since.ensures
