-- Nothing is gone through, and then all.
use Rattle.std.proofs.Common.{rules, ◌≡◌, ◌<◌, ◌∷◌, ◌++◌, ℕ, [], Some, All, Contains, length, slice_get, refl, ap, sym, ◌∙◌, subst}
use Rattle.std.proofs.lemmas.Option.{slice_get_read}
use Rattle.sml_domain.specs.Domain.{Class}
use Rattle.smi_meaning.proofs.Picked.{same_some}
use Rattle.smi_reach.specs.Found.{Finds, NoneIsIn}
use Rattle.smi_reach.proofs.Spread.{all_found, none_done}
use Rattle.smi_reach.proofs.states.states_of.Goals as goal

pub loop-left-init : goal.loop-left-init
loop-left-init c =
    let k : Class = c.index-classes-get.result in
    let left = c.in_ok-left.left.items in
    let initial : c.class.inside.initial ≡ k.initial = ap (λ x. x.initial) c.class.view_is in
    let reached : c.push.new.self.items ≡ k.initial ∷ [] = c.in_ok-push.ensures.items ∙ ap (λ l. l ++ c.class.inside.initial ∷ []) c.new-reached.ensures.items ∙ ap (λ x. x ∷ []) initial in
    let states : c.rows.result.now ≡ k.states = c.rows.ensures ∙ ap (λ x. x.states) c.class.view_is in
    none_done c.args.domain.now k c.push.new.self.items left reached
    (subst (λ l. (i : ℕ) → i < length l → Contains left i) states (search rules))
    (subst (λ l. All (λ i. i < length l) left) states (search rules))

pub returns-then-not-branch : goal.returns-then-not-branch
returns-then-not-branch c = λ k e s.
    let d = c.args.domain.now in
    let x : Class = c.index-classes-get.result in
    let read : slice_get d.classes c.args.class ≡ Some x = slice_get_read d.classes (length d.classes) c.args.class x refl c.requires.class (search rules) in
    let same : x ≡ k = same_some x k (sym read ∙ e) in
    let finds : Finds d k c.spread.new.reached.items c.spread.new.left.items = subst (λ y. Finds d y c.spread.new.reached.items c.spread.new.left.items) same c.in_ok-spread.ensures.finds in
    let none : NoneIsIn k.states c.spread.new.reached.items c.spread.new.left.items (length c.spread.new.left.items) = subst (λ y. NoneIsIn y.states c.spread.new.reached.items c.spread.new.left.items (length c.spread.new.left.items)) same (c.in_ok-spread.ensures.none c.if-not-branch.true) in
    (λ m. all_found d k c.spread.new.reached.items c.spread.new.left.items s finds none m, finds.sound s)
