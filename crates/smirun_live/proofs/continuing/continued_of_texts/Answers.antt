use Rattle.std.proofs.Common.{subst, sym}
use Rattle.std.specs.Arc.{arc_value}
use Rattle.sml_load.specs.Texts.{IsDomainOfText}
use Rattle.smi_live.specs.Managing.{keeper_of}
use Rattle.smirun_live.specs.Continuing.{ContinuesLog}
use Rattle.smirun_live.proofs.LedTo.{if_ok_one}
use Rattle.smirun_live.proofs.continuing.continued_of_texts.Goals as goal

pub returns-in-Ok-clause-declared : goal.returns-in-Ok-clause-declared
returns-in-Ok-clause-declared c =
    if_ok_one c.continued_of.result _ _ c.continued_of.ensures.declared
    (λ made same. subst (λ t. IsDomainOfText t (arc_value made.declared)) c.in-Ok.ensures.text
    (subst (IsDomainOfText c.in-Ok.prepared.text.items) (sym same) c.in-Ok.ensures.domain))

pub returns-in-Ok-clause-log : goal.returns-in-Ok-clause-log
returns-in-Ok-clause-log c =
    if_ok_one c.continued_of.result _ _ c.continued_of.ensures.log
    (λ made after. subst (λ t. ContinuesLog t c.args.log.now made.manager.core.setup (keeper_of made.manager)) c.in-Ok.ensures.text after)
