-- One more block is begun.
use Rattle.std.proofs.Common.{rules, ◌≡◌, ◌<◌, ◌∷◌, ◌++◌, ◌+◌, [], ℕ, true, length, get_or, set, take, ap, sym, ◌∙◌, subst, arith}
use Rattle.std.proofs.lemmas.List.{take_more}
use Rattle.sml_domain.specs.Domain.{Action}
use Rattle.smi_reach.specs.Found.{IsBlockOf}
use Rattle.smi_reach.specs.Reach.{BeginsBlocks, IsBlockAmong}
use Rattle.smi_reach.proofs.Begun.{begins_as, begins_more, begins_one}
use Rattle.smi_reach.proofs.places.begin_actions.Goals as goal

pub loop-action-preserved : goal.loop-action-preserved
loop-action-preserved c =
    let actions = c.args.row.now.actions in
    let k = c.loop-action.action-index in
    let old = c.args.begun.now.items in
    let begun = c.loop-action.begun.items in
    let a : Action = c.action-item.result in
    let new = set begun c.get.result true in
    let at : a ≡ get_or actions k a = c.action-item.is ∙ ap (λ l. get_or l k a) (c.rows-action-items.ensures ∙ ap (λ r. r.actions) c.row.view_is) in
    let lt : k < length actions = search rules in
    let block : c.get.result ≡ a.block = c.get.ensures ∙ ap (λ r. r.block) c.action.view_is in
    let within : a.block < length old = subst (IsBlockOf (length old)) (sym at) (c.requires k a lt) in
    let count = c.loop-action.invariant.count in
    let inside : c.get.result < length begun = omega (arith, block, within, count) in
    let next : take (k + 1) actions ≡ take k actions ++ a ∷ [] = take_more actions k a lt ∙ ap (λ y. take k actions ++ y ∷ []) (sym at) in
    subst (λ t. BeginsBlocks (IsBlockAmong t) old new) (sym next)
    (begins_more (λ y b. y.block ≡ b) (take k actions) a old begun new c.loop-action.invariant
    (begins_as (λ b. b ≡ c.get.result) (λ b. a.block ≡ b) begun new (λ b e. sym block ∙ sym e) (λ b e. sym e ∙ sym block) (begins_one begun c.get.result inside)))
