-- One parameter more.
use Rattle.std.proofs.Common.{◌≡◌, ◌<◌, ◌≤◌, get_or, sym, subst, arith, ⊎_elim}
use Rattle.std.proofs.lemmas.Bool.{cases_lt}
use Rattle.sml_outset.specs.Suits.{ParamSuits}
use Rattle.sml_outset.proofs.Made.{read_as}
use Rattle.sml_outset.proofs.suiting.params_suit.Goals as goal

pub loop-i-preserved : goal.loop-i-preserved
loop-i-preserved c = λ k p x less.
    let params = c.args.params.now in
    let given = c.args.given.now in
    let i = c.loop-i.i in
    ⊎_elim
    (λ (below : k < i). c.loop-i.invariant k p x below)
    (λ (le : i ≤ k).
    let is : i ≡ k = omega (arith, le, less) in
    let first : get_or params i p ≡ c.index-params-i.result = read_as params i c.index-params-i.result p (omega (arith, c.loop-i-test.true)) c.index-params-i.is in
    let second : get_or given i x ≡ c.index-given-i.result = read_as given i c.index-given-i.result x (omega (arith, c.loop-i-test.true, c.if-given-params.false)) c.index-given-i.is in
    subst (λ j. ParamSuits (get_or params j p) (get_or given j x)) is
    (subst (λ q. ParamSuits q (get_or given i x)) (sym first)
    (subst (λ y. ParamSuits c.index-params-i.result y) (sym second) (c.param_suits.ensures.0 c.if-not-param_suits.false))))
    (cases_lt k i)
