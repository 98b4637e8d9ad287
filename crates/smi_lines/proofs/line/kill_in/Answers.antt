use Rattle.std.proofs.Common.{◌∷◌, [], refl, ap, ◌∙◌}
use Rattle.sml_text.specs.declared.source.Source.TheVariants as source
use Rattle.sml_text.specs.Views.{token_of}
use Rattle.smi_lines.specs.Line as spec
use Rattle.smi_lines.proofs.Wholes.{not_ended}
use Rattle.smi_lines.proofs.line.kill_in.Goals as goal

pub returns-then-not-is_end : goal.returns-then-not-is_end
returns-then-not-is_end c =
    let first = c.in_ok-object in
    let second = c.in_ok-session in
    let object = token_of first.object in
    not_ended spec.kill_in (object ∷ token_of second.session ∷ []) _ _ source.Line second.field-0-2 second.rest.now _
    c.is_end.ensures c.if-not-is_end.true
    (first.ensures.next ∙ ap (λ l. object ∷ l) second.ensures.next)
    (first.ensures.bad ∙ second.ensures.bad) (λ t more. refl)
