use Rattle.std.proofs.Common.{arith, ap, sym, ◌∙◌}
use Rattle.sml_text.specs.Scan.{passes_first, is_quote}
use Rattle.sml_text.proofs.Strings.{short_span, long_span, string_good, string_open, string_long}
use Rattle.sml_text.proofs.front.string_at.Goals as goal
use Rattle.sml_text.proofs.front.string_at.Goals.{else-length-le-LONGEST_STRING-via-then-length-le-LONGEST_STRING+else-begins_quote, else-length-le-LONGEST_STRING-via-else-length-le-LONGEST_STRING}

pub returns-then-begins_quote : goal.returns-then-begins_quote
returns-then-begins_quote c =
    string_good c.args.rest.now _
    (short_span c.args.rest.now c.min.result _ c.string_length-length.ensures.span (omega (arith, c.min.ensures)) (λ l. omega (arith, c.min.ensures, l)) c.if-length-le-LONGEST_STRING.true)
    c.if-length-le-LONGEST_STRING.true
    (ap (passes_first is_quote) (sym c.split_at.ensures.back) ∙ sym c.begins_quote.ensures ∙ c.if-begins_quote.true)

pub returns-else-length-le-LONGEST_STRING : goal.returns-else-length-le-LONGEST_STRING
returns-else-length-le-LONGEST_STRING c = elim c.else-length-le-LONGEST_STRING.branch [
  | else-length-le-LONGEST_STRING-via-then-length-le-LONGEST_STRING+else-begins_quote w ↦
      string_open c.args.rest.now _
      (short_span c.args.rest.now c.min.result _ c.string_length-length.ensures.span (omega (arith, c.min.ensures)) (λ l. omega (arith, c.min.ensures, l)) w.if-length-le-LONGEST_STRING.true)
      w.if-length-le-LONGEST_STRING.true
      (ap (passes_first is_quote) (sym w.split_at.ensures.back) ∙ sym w.begins_quote.ensures ∙ w.if-begins_quote.false)
  | else-length-le-LONGEST_STRING-via-else-length-le-LONGEST_STRING w ↦
      string_long c.args.rest.now (long_span c.args.rest.now c.min.result _ c.string_length-length.ensures.span (omega (arith, c.min.ensures)) (omega (arith, c.min.ensures)) (omega (arith, w.if-length-le-LONGEST_STRING.false)))
]
