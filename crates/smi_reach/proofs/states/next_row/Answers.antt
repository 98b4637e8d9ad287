-- One more row is not that of a state of the list.
use Rattle.std.proofs.Common.{rules, ◌≡◌, ◌<◌, Contains, eqb, get_or, length, ap, sym, ◌∙◌, subst, arith, ⊎_elim}
use Rattle.std.proofs.lemmas.Bool.{cases_eq, eqb-true, eq-eqb, true≢false}
use Rattle.std.proofs.lemmas.List.{get_or_default}
use Rattle.std.proofs.lemmas.List.Elements.{at_from_Contains, contains_decides}
use Rattle.sml_domain.specs.Domain.{State as Stated}
use Rattle.smi_reach.proofs.states.next_row.Goals as goal

pub loop-j-preserved : goal.loop-j-preserved
loop-j-preserved c =
    let rows = c.args.rows.now in
    let left = c.args.left.now in
    let reached = c.args.reached.now in
    let row : Stated = c.index-rows-left.result in
    let decides = contains_decides eqb (λ a b. (eqb-true a b, eq-eqb a b)) reached c.row.inside.number c.contains.result c.contains.ensures.cases in
    let number : c.row.inside.number ≡ row.number = ap (λ r. r.number) c.row.view_is in
    let at : row ≡ get_or rows (get_or left c.loop-j.j 0) row = search rules in
    let within : get_or left c.loop-j.j 0 < length rows = search rules in
    λ j x lt inside has.
    ⊎_elim (λ e. absurd (true≢false (sym (decides.1 (at_from_Contains reached c.row.inside.number
    (subst (Contains reached) (ap (λ r. r.number) (ap (λ k. get_or rows (get_or left k 0) x) e ∙ get_or_default rows (get_or left c.loop-j.j 0) x row within ∙ sym at) ∙ sym number) has))) ∙ c.if-contains.false)))
    (λ n. c.loop-j.invariant j x (omega (arith, lt, n)) inside has)
    (cases_eq j c.loop-j.j)

pub returns-clause-none : goal.returns-clause-none
returns-clause-none c = λ j x lt inside has. c.loop-j.invariant j x (omega (arith, lt, c.loop-j-test.false)) inside has
