use Rattle.std.proofs.Common.{◌≡◌, List, ◌∷◌, [], Option, Some, arith, ap, refl, sym, ◌∙◌}
use Rattle.std.proofs.lemmas.Grind.{common_steps}
use Rattle.sml_text.specs.declared.source.Source.TheVariants as source
use Rattle.sml_text.specs.declared.source.Sign.TheVariants as sign
use Rattle.sml_text.specs.Tokens.{Lexeme}
use Rattle.sml_text.specs.Views.{lexeme_of}
use Rattle.sml_domain.specs.Completing.{Passed}
use Rattle.smi_lines.specs.Line.{lexemes, behind_argument, sign_in}
use Rattle.smi_lines.proofs.Wholes.{not_ended, whole_none}
use Rattle.smi_lines.proofs.arguments.followed.Goals.{in_default-via-in-Some-CloseBracket+else-is_end}
use Rattle.smi_lines.proofs.arguments.followed.Goals.{in_default-via-in-Some+in_default, in_default-via-in_default}
use Rattle.smi_lines.proofs.arguments.followed.Goals as goal

pub returns-in_default-clause-none : goal.returns-in_default-clause-none
returns-in_default-clause-none c none more =
    let what = sign_in (lexeme_of c.args.sign.now) in
    let after : List Lexeme → Option (List Passed) = λ words. behind_argument what words more in
    elim c.in_default.branch [
      | in_default-via-in-Some-CloseBracket+else-is_end w ↦
          let closes : what ≡ Some sign.CloseBracket =
          sym c.sign_in.ensures ∙ (w.in-Some-CloseBracket.is ∙ ap (λ s. Some s) w.in-Some-CloseBracket.field-0-is) in
          sym (not_ended after [] _ _ source.Line c.args.at c.args.rest.now _
          w.is_end.ensures w.if-is_end.false refl refl
          (λ t words. ap (λ s. behind_argument s (t.lexeme ∷ lexemes words) more) closes))
      | in_default-via-in-Some+in_default w ↦ whole_none after _ _ (λ words. grind (arith, common_steps))
      | in_default-via-in_default w ↦ whole_none after _ _ (λ words. grind (arith, common_steps))
    ]
