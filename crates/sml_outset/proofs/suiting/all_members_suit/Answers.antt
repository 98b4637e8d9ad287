-- One set more.
use Rattle.std.proofs.Common.{◌≡◌, ◌<◌, ◌≤◌, ◌∙◌, get_or, sym, subst, arith, ⊎_elim}
use Rattle.std.proofs.lemmas.Bool.{cases_lt}
use Rattle.sml_outset.specs.Suits.{MembersSuit}
use Rattle.sml_outset.proofs.Made.{read_as}
use Rattle.sml_outset.proofs.suiting.all_members_suit.Goals as goal

pub loop-set-preserved : goal.loop-set-preserved
loop-set-preserved c = λ k m less.
    let d = c.args.domain.now in
    let members = c.args.members.now in
    let set = c.loop-set.set in
    ⊎_elim
    (λ (below : k < set). c.loop-set.invariant k m below)
    (λ (le : set ≤ k).
    let is : set ≡ k = omega (arith, le, less) in
    let here : get_or members set m ≡ c.index-members-set.result = read_as members set c.index-members-set.result m (omega (arith, c.loop-set-test.true)) c.index-members-set.is in
    let these : c.deref.result.now ≡ c.index-members-set.result = c.deref.ensures.value ∙ c.these.view_is in
    subst (λ j. MembersSuit d j (get_or members j m)) is
    (subst (MembersSuit d set) (these ∙ sym here) (subst (λ j. MembersSuit d j c.deref.result.now) c.new.ensures (c.members_suit.ensures.0 c.if-not-members_suit.false))))
    (cases_lt k set)
