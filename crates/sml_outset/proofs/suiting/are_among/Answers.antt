-- One object more.
use Rattle.std.proofs.Common.{◌≡◌, ◌<◌, ◌≤◌, ◌∙◌, get_or, sym, subst, arith, ⊎_elim}
use Rattle.std.specs.List.{Contains}
use Rattle.std.proofs.lemmas.Bool.{cases_lt}
use Rattle.sml_outset.proofs.Made.{read_as}
use Rattle.sml_outset.proofs.suiting.are_among.Goals as goal

pub returns-then-not-is_among : goal.returns-then-not-is_among
returns-then-not-is_among c =
    let objects = c.args.objects.now in
    let i = c.loop-object.object-index in
    let x = c.object-item.result in
    let here : get_or objects i x ≡ x = sym c.object-item.is in (
      λ e. absurd (cc e),
      λ all. absurd (cc (sym (c.is_among.ensures.1 (subst (Contains c.args.some.now) here (all i x (omega (arith, c.loop-object-test.true))))) ∙ c.if-not-is_among.true)),
    )

pub loop-object-preserved : goal.loop-object-preserved
loop-object-preserved c = λ k x less.
    let objects = c.args.objects.now in
    let i = c.loop-object.object-index in
    ⊎_elim
    (λ (below : k < i). c.loop-object.invariant k x below)
    (λ (le : i ≤ k).
    let is : i ≡ k = omega (arith, le, less) in
    let here : get_or objects i x ≡ c.object-item.result = read_as objects i c.object-item.result x (omega (arith, c.loop-object-test.true)) c.object-item.is in
    subst (λ j. Contains c.args.some.now (get_or objects j x)) is
    (subst (Contains c.args.some.now) (sym here) (c.is_among.ensures.0 c.if-not-is_among.false)))
    (cases_lt k i)
