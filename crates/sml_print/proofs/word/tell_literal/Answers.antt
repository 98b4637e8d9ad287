use Rattle.std.proofs.Common.{ap, sym}
use Rattle.sml_text.proofs.Writes.{told_as}
use Rattle.sml_tree.specs.Content.{literal_content}
use Rattle.sml_print.specs.Words.{literal_text}
use Rattle.sml_print.proofs.Tolds.{then_told}
use Rattle.sml_print.proofs.word.tell_literal.Goals as goal

pub returns-in-Str-clause-told : goal.returns-in-Str-clause-told
returns-in-Str-clause-told g c =
    let bytes = told_as _ _ _ _ _ _ c.tell-in-Str.ensures.told c.deref.ensures.value in
    told_as _ _ _ _ _ _ (then_told c.tell.ensures.told (then_told bytes c.tell-in-Str-2.ensures.told)) (ap (λ l. literal_text (literal_content l)) (sym c.in-Str.is))
