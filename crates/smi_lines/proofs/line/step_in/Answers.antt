use Rattle.std.proofs.Common.{◌≡◌, ◌∙◌, List, arith}
use Rattle.std.proofs.lemmas.Grind.{common_steps}
use Rattle.sml_text.specs.Tokens.{Lexeme}
use Rattle.sml_text.specs.Views.{lexeme_of}
use Rattle.smi_lines.specs.Line as spec
use Rattle.smi_lines.proofs.Wholes.{whole_same}
use Rattle.smi_lines.proofs.line.step_in.Goals as goal

pub returns-else-eq-clause-asked : goal.returns-else-eq-clause-asked
returns-else-eq-clause-asked c =
    let name = spec.name_in (lexeme_of c.args.verb.now) in
    let same : (words : List Lexeme) → spec.named_in c.in-Some.verb words ≡ spec.step_in name words =
    λ words. grind (arith, common_steps) in
    c.named_step.ensures ∙ whole_same _ _ _ _ same
