use Rattle.std.proofs.Common.{◌∷◌, ap, ◌∙◌}
use Rattle.sml_text.specs.Views.{token_of}
use Rattle.smi_lines.proofs.Fronts.{none_follows}
use Rattle.smi_lines.proofs.arguments.next_argument.Goals as goal

pub returns-clause-none : goal.returns-clause-none
returns-clause-none c none =
    let first = c.in-Some in
    let second = c.in-Some-next_token in
    let third = c.in-Some-next_token-2 in
    let fourth = c.in-Some-next_token-3 in
    let n = token_of first.name in
    let e = token_of second.equals in
    let v = token_of third.value in
    none_follows _ _ _ _ n e v (token_of fourth.sign)
    (first.ensures.next
    ∙ ap (λ l. n ∷ l) (second.ensures.next
    ∙ ap (λ l. e ∷ l) (third.ensures.next ∙ ap (λ l. v ∷ l) fourth.ensures.next)))
    (first.ensures.bad ∙ (second.ensures.bad ∙ (third.ensures.bad ∙ fourth.ensures.bad))) (c.followed.ensures.none none)
