use Rattle.std.proofs.Common.{subst}
use Rattle.smi_core.specs.Output.{LineWrites}
use Rattle.smi_live.proofs.Cases.{on_ok_both}
use Rattle.smi_live.proofs.Taken.{refused_does}
use Rattle.smi_live.proofs.taking.take_refused.Goals as goal

pub returns-in-Ok-clause-made : goal.returns-in-Ok-clause-made
returns-in-Ok-clause-made g c =
    let kept0 = c.refuse.new.made.kept.items in
    let text0 = c.refuse.new.made.text.items in
    on_ok_both c.end_line.result c.end_line.ensures.kept c.end_line.ensures.text (λ e t.
    refused_does c.args.keeper.now kept0 text0 _ _ (subst (λ m. LineWrites m kept0 text0 m) c.core.ensures c.in-Ok.ensures.makes) c.in-Ok.ensures.line e t)
