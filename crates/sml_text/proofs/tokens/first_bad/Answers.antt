use Rattle.std.proofs.Common.{◌∙◌, sym, ap, arith}
use Rattle.sml_text.specs.Stream.{TextReading, tokens_from}
use Rattle.sml_text.proofs.Streams.{front_ends, front_bad, front_takes, next_reading, read_tokens, read_bad}
use Rattle.sml_text.proofs.tokens.first_bad.Goals as goal

pub returns-then-is_empty : goal.returns-then-is_empty
returns-then-is_empty c = (
  tokens_from c.args.source 0 c.args.text.now,
  read_tokens _ _ _ (c.things.invariant.0 ∙ front_ends _ _ _ _ c.front_at-front.ensures (sym c.stands.ensures ∙ c.if-not-stands.true) _ c.is_empty.ensures c.if-is_empty.true),
)

pub returns-else-is_empty : goal.returns-else-is_empty
returns-else-is_empty c =
    read_bad _ _ _ _ (c.things.invariant.0 ∙ front_bad _ _ _ _ c.front_at-front.ensures (sym c.stands.ensures ∙ c.if-not-stands.true) _ c.is_empty.ensures c.if-is_empty.false)

pub things-preserved : goal.things-preserved
things-preserved c =
    let takes = front_takes _ _ _ c.front_at-front.ensures (sym c.stands.ensures ∙ c.if-not-stands.false) in (
      c.things.invariant.0
          ∙ ap (λ (r : TextReading). r.bad) (next_reading _ _ _ _ _ _ _ c.front_at-front.ensures c.stands.ensures c.if-not-stands.false c.size-size.ensures c.split_at.ensures.back),
      omega (arith, takes, c.size-size.ensures, c.split_at.ensures.back_len, c.things.invariant.1),
    )
