-- One more row.
use Rattle.std.proofs.Common.{rules, ◌≡◌, ◌<◌, ◌≤◌, ◌∷◌, ◌++◌, ◌+◌, ℕ, [], false, Contains, length, get_or, take, refl, ap, sym, ◌∙◌, subst, arith}
use Rattle.std.specs.Prelude.{◌↔◌, Some, slice_get}
use Rattle.std.proofs.lemmas.Bool.{true≢false}
use Rattle.std.proofs.lemmas.List.{take_all, take_more}
use Rattle.std.proofs.lemmas.Option.{slice_get_read}
use Rattle.sml_domain.specs.Domain.{Class, State as Stated}
use Rattle.smi_meaning.proofs.Picked.{same_some}
use Rattle.smi_reach.specs.Unreached.{IsLeft, IsUnenteredAmong}
use Rattle.smi_reach.proofs.Left.{none_left, one_left}
use Rattle.smi_reach.proofs.unreached.unentered_of.Goals.{then-is_left+in_ok-push, else-is_left}
use Rattle.smi_reach.proofs.unreached.unentered_of.Goals as goal

pub loop-row-preserved : goal.loop-row-preserved
loop-row-preserved c = λ k e.
    let d = c.args.domain.now in
    let x : Class = c.index-classes-get.result in
    let read : slice_get d.classes c.args.number ≡ Some x = slice_get_read d.classes (length d.classes) c.args.number x refl c.requires.class (search rules) in
    let same : x ≡ k = same_some x k (sym read ∙ e) in
    let i = c.loop-row.row-index in
    let row : Stated = c.row-item.result in
    let rows : c.rows-row-items.result.now ≡ k.states = c.rows-row-items.ensures ∙ ap (λ y. y.states) (c.class.view_is ∙ same) in
    let at : row ≡ get_or k.states i row = c.row-item.is ∙ ap (λ l. get_or l i row) rows in
    let lt : i < length k.states = subst (λ l. i < length l) rows (search rules) in
    let next : take (i + 1) k.states ≡ take i k.states ++ row ∷ [] = take_more k.states i row lt ∙ ap (λ y. take i k.states ++ y ∷ []) (sym at) in
    let list = c.loop-row.list.items in
    let states = c.in_ok-states.states.items in
    let dead : x.dead ≡ k.dead = ap (λ y. y.dead) same in
    let left : IsLeft x row states → (s : ℕ) → IsUnenteredAmong d k (take i k.states ++ row ∷ []) s ↔ Contains (list ++ row.number ∷ []) s =
    λ h. one_left d k (take i k.states) row list (c.loop-row.invariant k e) (λ m. h.1 ((c.in_ok-states.ensures k e row.number).0 m)) (λ q. h.0 (q ∙ sym dead)) in
    let not : (IsLeft x row states → ⊥) → (s : ℕ) → IsUnenteredAmong d k (take i k.states ++ row ∷ []) s ↔ Contains list s =
    λ n. none_left d k (take i k.states) row list (c.loop-row.invariant k e) (λ never alive. n (λ q. alive (q ∙ dead), λ has. never ((c.in_ok-states.ensures k e row.number).1 has))) in
    let number : c.row.inside.number ≡ row.number = ap (λ r. r.number) c.row.view_is in
    let decides = c.is_left.ensures in
    let here : c.deref.result.now ≡ states = c.deref.ensures.value in
    elim c.if-is_left.branch [
      | then-is_left+in_ok-push w ↦ λ s.
          subst (λ r. IsUnenteredAmong d k r s ↔ Contains c.if-is_left.list.items s) (sym next)
          (subst (λ l. IsUnenteredAmong d k (take i k.states ++ row ∷ []) s ↔ Contains l s) (sym (ap (λ v. v.items) w.list-is ∙ w.in_ok-push.ensures.items ∙ ap (λ n. list ++ n ∷ []) number))
          (left (subst (IsLeft x row) here (decides.0 w.if-is_left.true)) s))
      | else-is_left w ↦ λ s.
          subst (λ r. IsUnenteredAmong d k r s ↔ Contains c.if-is_left.list.items s) (sym next)
          (subst (λ l. IsUnenteredAmong d k (take i k.states ++ row ∷ []) s ↔ Contains l s) (sym (ap (λ v. v.items) w.list-is))
          (not (λ h. true≢false (sym (decides.1 (subst (IsLeft x row) (sym here) h)) ∙ w.if-is_left.false)) s))
    ]

pub returns : goal.returns
returns c = λ k e s.
    let d = c.args.domain.now in
    let x : Class = c.index-classes-get.result in
    let read : slice_get d.classes c.args.number ≡ Some x = slice_get_read d.classes (length d.classes) c.args.number x refl c.requires.class (search rules) in
    let same : x ≡ k = same_some x k (sym read ∙ e) in
    let rows : c.rows-row-items.result.now ≡ k.states = c.rows-row-items.ensures ∙ ap (λ y. y.states) (c.class.view_is ∙ same) in
    let past : length k.states ≤ c.loop-row.row-index = subst (λ l. length l ≤ c.loop-row.row-index) rows (search rules) in
    let whole : take c.loop-row.row-index k.states ≡ k.states = take_all c.loop-row.row-index k.states past in
    let own : k.associated ≡ false = sym (ap (λ y. y.associated) (c.class.view_is ∙ same)) ∙ c.if-class.false in
    let known = c.loop-row.invariant k e s in
    (λ h. known.0 (subst (λ r. IsUnenteredAmong d k r s) (sym whole) h.state), λ h. record { own = own; state = subst (λ r. IsUnenteredAmong d k r s) whole (known.1 h) })
