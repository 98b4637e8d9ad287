use Rattle.std.proofs.Common.{◌∙◌, ◌≤◌, arith}
use Rattle.sml_text.proofs.Streams.{front_stops, front_takes, next_tokens, next_bad, dropped_on}
use Rattle.sml_text.proofs.Fits.{front_fits}
use Rattle.std.proofs.Common.{sym}
use Rattle.sml_text.proofs.tokens.next_token.Goals as goal

pub returns-then-not-stands-clause-next : goal.returns-then-not-stands-clause-next
returns-then-not-stands-clause-next c =
    c.skip.invariant.0 ∙ front_stops _ _ _ _ c.front_at-front.ensures (sym c.stands.ensures ∙ c.if-not-stands.true)

pub lexeme_at-requires : goal.lexeme_at-requires
lexeme_at-requires c = front_fits _ _ _ c.front_at-front.ensures

pub returns-in-Some-clause-next : goal.returns-in-Some-clause-next
returns-in-Some-clause-next c =
    c.skip.invariant.0
    ∙ next_tokens _ _ _ _ _ _ _ _ c.front_at-front.ensures c.stands.ensures c.if-not-stands.false c.size-size.ensures c.split_at.ensures.back c.in-Some.ensures.same

pub returns-in-Some-clause-bad : goal.returns-in-Some-clause-bad
returns-in-Some-clause-bad c =
    c.skip.invariant.4
    ∙ next_bad _ _ _ _ _ _ _ c.front_at-front.ensures c.stands.ensures c.if-not-stands.false c.size-size.ensures c.split_at.ensures.back

pub returns-in-Some-clause-behind : goal.returns-in-Some-clause-behind
returns-in-Some-clause-behind c =
    let on : c.args.at ≤ c.skip.at = omega (arith, c.skip.invariant.1, c.skip.invariant.2) in
    c.split_at.ensures.back ∙ dropped_on _ _ _ _ _ on c.skip.invariant.3

pub skip-preserved : goal.skip-preserved
skip-preserved c =
    let takes = front_takes _ _ _ c.front_at-front.ensures (sym c.stands.ensures ∙ c.if-not-stands.false) in
    let on : c.args.at ≤ c.skip.at = omega (arith, c.skip.invariant.1, c.skip.invariant.2) in (
      c.skip.invariant.0
          ∙ next_tokens _ _ _ _ _ _ _ _ c.front_at-front.ensures c.stands.ensures c.if-not-stands.false c.size-size.ensures c.split_at.ensures.back c.in_default.ensures.same,
      omega (arith, takes, c.size-size.ensures, c.split_at.ensures.back_len, c.skip.invariant.1),
      omega (arith, takes, c.size-size.ensures, c.split_at.ensures.back_len, c.skip.invariant.2),
      c.split_at.ensures.back ∙ dropped_on _ _ _ _ _ on c.skip.invariant.3,
      c.skip.invariant.4
          ∙ next_bad _ _ _ _ _ _ _ c.front_at-front.ensures c.stands.ensures c.if-not-stands.false c.size-size.ensures c.split_at.ensures.back,
    )

pub skip-smaller : goal.skip-smaller
skip-smaller c =
    let takes = front_takes _ _ _ c.front_at-front.ensures (sym c.stands.ensures ∙ c.if-not-stands.false) in
    omega (arith, takes, c.size-size.ensures, c.split_at.ensures.back_len)
