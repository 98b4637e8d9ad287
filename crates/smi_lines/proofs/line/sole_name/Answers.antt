use Rattle.std.proofs.Common.{◌∷◌, [], refl}
use Rattle.sml_text.specs.declared.source.Source.TheVariants as source
use Rattle.sml_text.specs.Views.{token_of}
use Rattle.smi_lines.specs.Line as spec
use Rattle.smi_lines.proofs.Wholes.{not_ended}
use Rattle.smi_lines.proofs.line.sole_name.Goals as goal

pub returns-then-not-is_end : goal.returns-then-not-is_end
returns-then-not-is_end c =
    let first = c.in_ok-object in
    not_ended spec.sole_name (token_of first.object ∷ []) _ _ source.Line first.field-0-2 first.rest.now _
    c.is_end.ensures c.if-not-is_end.true first.ensures.next first.ensures.bad (λ t more. refl)
