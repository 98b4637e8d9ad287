-- The states in which one more action ends are added.
use Rattle.std.proofs.Common.{rules, ◌≡◌, ◌<◌, ◌∷◌, ◌++◌, ◌+◌, [], length, get_or, take, ap, sym, ◌∙◌, subst}
use Rattle.std.proofs.lemmas.List.{take_more}
use Rattle.sml_domain.specs.Domain.{Action}
use Rattle.sml_domain.specs.Lookups.{tree_of_block}
use Rattle.smi_reach.specs.declared.ways.Way.{Way}
use Rattle.smi_reach.specs.Falling.{ends_of}
use Rattle.smi_reach.specs.Found.{AddsMissing, AddsEnds}
use Rattle.smi_reach.specs.Ways.{IsWayOf}
use Rattle.smi_reach.proofs.Lists.{ends_more}
use Rattle.smi_reach.proofs.states.add_ends.Goals as goal

pub loop-action-preserved : goal.loop-action-preserved
loop-action-preserved c =
    let d = c.args.domain.now in
    let actions = c.args.row.now.actions in
    let ways = c.args.ways.now in
    let k = c.loop-action.action-index in
    let a : Action = c.action-item.result in
    let w : Way = c.index-ways-get.result in
    let front = take k actions in
    let at : a ≡ get_or actions k a = c.action-item.is ∙ ap (λ l. get_or l k a) (c.rows-action-items.ensures ∙ ap (λ r. r.actions) c.row.view_is) in
    let lt : k < length actions = search rules in
    let way : IsWayOf (tree_of_block d a.block) w = subst (IsWayOf (tree_of_block d a.block)) (sym (c.index-ways-get.is ∙ ap (λ b. get_or ways b w) (c.get.ensures ∙ ap (λ r. r.block) c.action.view_is))) (c.requires.known a.block w (search rules)) in
    let e : c.deref.result.now ≡ ends_of (tree_of_block d a.block) = c.deref.ensures.value ∙ ap (λ y. y.ends.items) (sym c.index-ways-get.is) ∙ way.ends in
    let next : take (k + 1) actions ≡ front ++ a ∷ [] = take_more actions k a lt ∙ ap (λ y. front ++ y ∷ []) (sym at) in
    subst (λ t. AddsEnds d t c.args.list.now.items c.add_missing.new.list.items) (sym next)
    (ends_more d front a c.args.list.now.items c.loop-action.list.items c.add_missing.new.list.items c.loop-action.invariant (subst (λ m. AddsMissing c.loop-action.list.items m c.add_missing.new.list.items) e c.in_ok-add_missing.ensures))
