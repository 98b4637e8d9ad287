use Rattle.std.proofs.Common.{ap, sym, option_map}
use Rattle.sml_text.proofs.Writes.{told_as}
use Rattle.sml_tree.specs.Content.{literal_content}
use Rattle.sml_print.specs.Words.{default_text}
use Rattle.sml_print.proofs.Tolds.{then_told}
use Rattle.sml_print.proofs.word.tell_default.Goals as goal

pub returns-in-Some-clause-told : goal.returns-in-Some-clause-told
returns-in-Some-clause-told g c =
    told_as _ _ _ _ _ _ (then_told c.tell.ensures.told c.tell_literal.ensures.told) (ap (λ o. default_text (option_map literal_content o)) (sym c.in-Some.is))
