use Rattle.std.proofs.Common.{subst, sym}
use Rattle.std.specs.Arc.{arc_value}
use Rattle.sml_load.specs.Texts.{IsDomainOfText}
use Rattle.smirun_live.proofs.preparing.prepare_text.Goals as goal

pub returns-in-Ok-from_slice-clause-domain : goal.returns-in-Ok-from_slice-clause-domain
returns-in-Ok-from_slice-clause-domain c =
    subst (λ t. IsDomainOfText t (arc_value c.in-Ok.domain)) (sym c.in-Ok-from_slice.ensures.items) c.in-Ok.ensures.domain
