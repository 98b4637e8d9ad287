use Rattle.std.proofs.Common.{◌≡◌, Some, false, ap, ◌∙◌, sym, arith}
use Rattle.sml_text.specs.Stream.{tokens_from}
use Rattle.sml_text.specs.declared.source.Source.TheVariants as source
use Rattle.smi_lines.specs.Line.{lexemes, arguments_in, with_passed, unless_last}
use Rattle.smi_lines.proofs.Fronts.{in_front, front_more, of_some}
use Rattle.smi_lines.proofs.arguments.arguments_in.Goals as goal

pub more-preserved : goal.more-preserved
more-preserved c =
    let next = c.in-Some.next in
    let now = arguments_in (lexemes (tokens_from source.Line c.more.at c.more.rest.now)) in
    let more = arguments_in (lexemes (tokens_from source.Line next.at next.rest.now)) in
    let read : now ≡ with_passed (Some next.passed) (unless_last next.is_last more) = of_some _ _ next c.in-Some.is c.in_ok-next.ensures.some in
    let here : now ≡ with_passed (Some next.passed) (unless_last false more) = read ∙ ap (λ b. with_passed (Some next.passed) (unless_last b more)) c.if-is_last.false in (
      front_more _ c.more.list.items next.passed now more c.more.invariant.0 here ∙ ap (λ l. in_front l more) (sym c.in_ok-push.ensures.items),
      (let w = of_some _ _ next c.in-Some.is c.in_ok-next.ensures.within in omega (arith, c.more.invariant.1, w.0)),
      c.more.invariant.2 ∙ of_some _ _ next c.in-Some.is c.in_ok-next.ensures.bad,
    )
