use Rattle.sml_text.specs.declared.source.Source.TheVariants as source
use Rattle.sml_text.specs.Views.{token_of}
use Rattle.smi_live_answers.proofs.OneWord.{more_words}
use Rattle.smi_live_answers.proofs.parts.read_sender.Goals as goal

pub returns-then-not-is_end : goal.returns-then-not-is_end
returns-then-not-is_end c =
    let first = c.in_ok-token in
    more_words (token_of first.token) _ _ source.Line first.field-0-2 first.rest.now _ c.is_end.ensures c.if-not-is_end.true first.ensures.next first.ensures.bad
