use Rattle.std.proofs.Common.{◌≡◌, ◌∙◌, subst, rules}
use Rattle.sml_text.specs.Decimal.{decimal_text}
use Rattle.sml_text.specs.Written.{Told}
use Rattle.sml_text.proofs.decimal.tell_u64.Goals as goal

pub returns-clause-told : goal.returns-clause-told
returns-clause-told g c =
    let text : c.format.result.now ≡ decimal_text c.args.number = search rules in
    subst (Told (g.S.Sink.contents c.args.sink.now) c.args.failed.now (g.S.Sink.contents c.tell.new.sink) c.tell.new.failed)
    (c.as_bytes.ensures.value ∙ text) c.tell.ensures.told
