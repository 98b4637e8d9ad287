-- The blocks of one more state are begun.
use Rattle.std.proofs.Common.{rules, ◌≡◌, ◌<◌, ◌∷◌, ◌++◌, ◌+◌, [], length, get_or, take, ap, sym, ◌∙◌, subst}
use Rattle.std.proofs.lemmas.List.{take_more}
use Rattle.sml_domain.specs.Domain.{State as Stated}
use Rattle.smi_reach.specs.Reach.{BeginsBlocks, IsBlockAmong, IsBlockWithin}
use Rattle.smi_reach.proofs.Begun.{begins_more}
use Rattle.smi_reach.proofs.places.begin_states.Goals as goal

pub loop-row-preserved : goal.loop-row-preserved
loop-row-preserved c =
    let states = c.args.class.now.states in
    let k = c.loop-row.row-index in
    let x : Stated = c.row-item.result in
    let new = c.begin_actions.new.begun.items in
    let at : x ≡ get_or states k x = c.row-item.is ∙ ap (λ l. get_or l k x) (c.rows-row-items.ensures ∙ ap (λ r. r.states) c.class.view_is) in
    let lt : k < length states = search rules in
    let next : take (k + 1) states ≡ take k states ++ x ∷ [] = take_more states k x lt ∙ ap (λ y. take k states ++ y ∷ []) (sym at) in
    subst (λ t. BeginsBlocks (IsBlockWithin t) c.args.begun.now.items new) (sym next)
    (begins_more (λ y b. IsBlockAmong y.actions b) (take k states) x c.args.begun.now.items c.loop-row.begun.items new c.loop-row.invariant c.begin_actions.ensures)
