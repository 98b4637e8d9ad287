-- A text is cut at its first line feed.
use Rattle.std.proofs.Common.{◌≡◌, ◌∙◌, ◌==◌, ◌<◌, ◌∷◌, ℕ, true, false, length, drop, MatchOption, sym, ap, subst}
use Rattle.std.proofs.Common.{rules, tests}
use Rattle.std.specs.List.{AllWithin, HoldsAt}
use Rattle.std.proofs.lemmas.Iterator.{YieldsList-from_slice, IsFirst-from_position}
use Rattle.std.proofs.lemmas.Iterator.Search.{position_from_yields_List}
use Rattle.std.proofs.lemmas.List.Elements.{All-from_all_within}
use Rattle.std.proofs.lemmas.List.Splits.{slice_split_none}
use Rattle.smi_run_plan.specs.Plans.{script_lines}
use Rattle.smi_run_plan.proofs.Cuts.{cut}
use Rattle.smi_run_plan.proofs.plan.first_line.Goals as goal

pub returns-in-Some-clause-lines : goal.returns-in-Some-clause-lines
returns-in-Some-clause-lines c =
    let text = c.args.text.now in
    let end = c.in-Some.end in
    let at = position_from_yields_List (λ b. b == 10) _ _ c.position.result c.position.ensures.ran
    (YieldsList-from_slice text cc) (λ x b q k. search (rules, tests)) in
    cut text end (sym c.in-Some.is ∙ at)
    ∙ ap (λ l. l ∷ script_lines (drop 1 (drop end text))) (sym c.split_at.ensures.front)
    ∙ ap (λ l. c.split_at.result.0.now ∷ script_lines l) (sym (c.split_at-in-Some.ensures.back
    ∙ ap (drop 1) c.split_at.ensures.back))

pub returns-in-None-clause-lines : goal.returns-in-None-clause-lines
returns-in-None-clause-lines c =
    let text = c.args.text.now in
    let Yes : ℕ → Type 0 = λ b. (b == 10) ≡ true in
    let No : ℕ → Type 0 = λ b. (b == 10) ≡ false in
    let all = IsFirst-from_position _ _ c.position.result Yes No c.position.ensures.ran
    (YieldsList-from_slice text cc) (λ x q k. search (rules, tests)) (λ x q k. search (rules, tests)) in
    slice_split_none (λ b. b == 10) text (All-from_all_within No text (subst (λ r. MatchOption r
    (AllWithin No text 0 (length text)) (λ i. (i < length text) × HoldsAt Yes text i
    × AllWithin No text 0 i)) c.in-None.is all))
