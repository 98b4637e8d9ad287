-- The blocks of one more class are begun.
use Rattle.std.proofs.Common.{rules, ◌≡◌, ◌<◌, ◌∷◌, ◌++◌, ◌+◌, [], length, get_or, take, ap, sym, ◌∙◌, subst}
use Rattle.std.proofs.lemmas.List.{take_more}
use Rattle.sml_domain.specs.Domain.{Class}
use Rattle.smi_reach.specs.Reach.{BeginsBlocks, IsBlockWithin, IsBlockOfClasses}
use Rattle.smi_reach.proofs.Begun.{begins_more}
use Rattle.smi_reach.proofs.places.begin_classes.Goals as goal

pub loop-class-preserved : goal.loop-class-preserved
loop-class-preserved c =
    let classes = c.args.domain.now.classes in
    let k = c.loop-class.class-index in
    let x : Class = c.class-item.result in
    let new = c.begin_states.new.begun.items in
    let at : x ≡ get_or classes k x = c.class-item.is ∙ ap (λ l. get_or l k x) c.classes-class-items.ensures in
    let lt : k < length classes = search rules in
    let next : take (k + 1) classes ≡ take k classes ++ x ∷ [] = take_more classes k x lt ∙ ap (λ y. take k classes ++ y ∷ []) (sym at) in
    subst (λ t. BeginsBlocks (IsBlockOfClasses t) c.args.begun.now.items new) (sym next)
    (begins_more (λ y b. IsBlockWithin y.states b) (take k classes) x c.args.begun.now.items c.loop-class.begun.items new c.loop-class.invariant c.begin_states.ensures)
