use Rattle.std.proofs.Common.{◌∙◌, ap}
use Rattle.sml_text.proofs.Writes.{told_as}
use Rattle.smi_lines.specs.Answers.{name_at}
use Rattle.smi_lines.proofs.Tolds.{then_told}
use Rattle.smi_lines.proofs.answer.tell_set.Goals as goal

pub returns-clause-told : goal.returns-clause-told
returns-clause-told g c =
    let name = told_as _ _ _ _ _ _ c.tell_name.ensures.told (c.name_at.ensures ∙ ap (λ l. name_at l c.args.param) c.class_parameters.ensures.is) in
    then_told c.tell.ensures.told (then_told c.tell_object.ensures.told (then_told c.tell-2.ensures.told (then_told name (then_told c.tell-3.ensures.told (then_told c.tell_value.ensures.told c.tell-4.ensures.told)))))
