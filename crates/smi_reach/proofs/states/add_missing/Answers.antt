-- One more is there already, or is added.
use Rattle.std.proofs.Common.{◌≡◌, ◌∷◌, ◌++◌, ◌+◌, ℕ, [], take, eqb, Contains, ap, sym, ◌∙◌, subst}
use Rattle.std.proofs.lemmas.Bool.{eqb-true, eq-eqb}
use Rattle.std.proofs.lemmas.List.{take_more}
use Rattle.std.proofs.lemmas.List.Elements.{Contains-from_at, contains_decides}
use Rattle.smi_reach.specs.Found.{AddsMissing}
use Rattle.smi_reach.proofs.Lists.{adds_there, adds_new}
use Rattle.smi_reach.proofs.states.add_missing.Goals.{then-not-contains+in_ok-push, else-not-contains}
use Rattle.smi_reach.proofs.states.add_missing.Goals as goal

pub loop-state-preserved : goal.loop-state-preserved
loop-state-preserved c =
    let old = c.args.list.now.items in
    let more = c.args.more.now in
    let l = c.loop-state.list.items in
    let k = c.loop-state.state-index in
    let x : ℕ = c.state-item.result in
    let front = take k more in
    let next : take (k + 1) more ≡ front ++ x ∷ [] = take_more more k x c.loop-state-test.true ∙ ap (λ y. front ++ y ∷ []) (sym c.state-item.is) in
    let there = contains_decides eqb (λ a b. (eqb-true a b, eq-eqb a b)) c.deref.result.now x c.contains.result c.contains.ensures.cases in
    elim c.if-not-contains.branch [
      | then-not-contains+in_ok-push w ↦ subst (λ t. AddsMissing old t c.if-not-contains.list.items) (sym next) (subst (λ v. AddsMissing old (front ++ x ∷ []) v) (sym (ap (λ v. v.items) w.list-is ∙ w.in_ok-push.ensures.items)) (adds_new old front l x c.loop-state.invariant))
      | else-not-contains w ↦ subst (λ t. AddsMissing old t c.if-not-contains.list.items) (sym next) (subst (λ v. AddsMissing old (front ++ x ∷ []) v) (sym (ap (λ v. v.items) w.list-is)) (adds_there old front l x c.loop-state.invariant (subst (λ v. Contains v x) c.deref.ensures.value (Contains-from_at c.deref.result.now x (there.0 w.if-not-contains.false)))))
    ]
