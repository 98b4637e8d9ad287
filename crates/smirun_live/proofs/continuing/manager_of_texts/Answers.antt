use Rattle.std.proofs.Common.{◌∙◌, ap, subst}
use Rattle.smi_live.specs.Managing.{keeper_of}
use Rattle.smirun_live.specs.Continuing.{ContinuesLog}
use Rattle.smirun_live.specs.declared.options.LiveOptions.{LiveOptions}
use Rattle.smirun_live.proofs.LedTo.{if_ok_one}
use Rattle.smirun_live.proofs.continuing.manager_of_texts.Goals as goal

pub returns-in-Ok-clause-limits : goal.returns-in-Ok-clause-limits
returns-in-Ok-clause-limits c =
    let same = c.in-Ok.ensures.options in
    if_ok_one c.manager_after.result _ _ c.manager_after.ensures.limits
    (λ m limits. (limits.0 ∙ ap (λ (o : LiveOptions). o.capacity) same, limits.1 ∙ ap (λ (o : LiveOptions). o.max_starts) same))

pub returns-in-Ok-clause-log : goal.returns-in-Ok-clause-log
returns-in-Ok-clause-log c =
    if_ok_one c.manager_after.result _ _ c.manager_after.ensures.log
    (λ m after. subst (λ t. ContinuesLog t c.args.log.now m.core.setup (keeper_of m)) c.in-Ok.ensures.text after)
