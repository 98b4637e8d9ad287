-- All ends in the order of their sessions.
use Rattle.std.proofs.Common.{◌≡◌, ◌≢◌, ◌<◌, ◌≤◌, ◌+◌, ◌⊎◌, inl, inr, ℕ, zero, suc, List, length, Some, refl, sym, ap, ◌∙◌, subst, arith, ⊎_elim}
use Rattle.std.specs.Prelude.{slice_get}
use Rattle.std.specs.List.{SwappedAt}
use Rattle.std.proofs.lemmas.Bool.{cases_eq}
use Rattle.std.proofs.lemmas.Option.{slice_get_within, slice_get-get_or, get_or_from_slice_get}
use Rattle.smi_mail.specs.Mails.{AreFresh, Letters, OperatorSide}
use Rattle.smi_mail.proofs.Closing.{there}
use Rattle.smi_mail.specs.Drains.{AreAllEnds, AreInOrder, Final, HasEnd, HasSessionFrom, IsFinal, IsNoSession}

pub at_or_behind : (p i : ℕ) → p ≤ i → (i ≡ p) ⊎ (p + 1 ≤ i)
at_or_behind zero zero h = inl refl
at_or_behind zero (suc i) h = inr (omega arith)
at_or_behind (suc p) zero h = absurd (omega (arith, h))
at_or_behind (suc p) (suc i) h = ⊎_elim (λ (e : i ≡ p). inl (ap suc e)) (λ (l : p + 1 ≤ i). inr (omega (arith, l))) (at_or_behind p i (omega (arith, h)))

module _ {A : Type 0} (xs ys : List A) (a b : ℕ) (long : length ys ≡ length xs) (la : a < length xs) (lb : b < length xs) (swapped : SwappedAt xs ys a b) where
  at_first : (x : A) → slice_get xs b ≡ Some x → slice_get ys a ≡ Some x
  at_first x e = slice_get-get_or ys a x (omega (arith, long, la)) ∙ ap Some (swapped.0 x ∙ get_or_from_slice_get xs b x x e)

  at_second : (x : A) → slice_get xs a ≡ Some x → slice_get ys b ≡ Some x
  at_second x e = slice_get-get_or ys b x (omega (arith, long, lb)) ∙ ap Some (swapped.1 x ∙ get_or_from_slice_get xs a x x e)

  at_other : (k : ℕ) (x : A) → k ≢ a → k ≢ b → slice_get xs k ≡ Some x → slice_get ys k ≡ Some x
  at_other k x na nb e =
      let lt = slice_get_within xs k x e in
      slice_get-get_or ys k x (omega (arith, long, lt)) ∙ ap Some (swapped.2 k x na nb ∙ get_or_from_slice_get xs k x x e)

  was_second : (x : A) → slice_get ys a ≡ Some x → slice_get xs b ≡ Some x
  was_second x e = slice_get-get_or xs b x lb ∙ ap Some (sym (swapped.0 x) ∙ get_or_from_slice_get ys a x x e)

  was_other : (k : ℕ) (x : A) → k ≢ a → k ≢ b → slice_get ys k ≡ Some x → slice_get xs k ≡ Some x
  was_other k x na nb e =
      let lt = slice_get_within ys k x e in
      slice_get-get_or xs k x (omega (arith, long, lt)) ∙ ap Some (sym (swapped.2 k x na nb) ∙ get_or_from_slice_get ys k x x e)

  moved : (i : ℕ) (x : A) → slice_get xs i ≡ Some x → (j : ℕ) × (slice_get ys j ≡ Some x)
  moved i x at = ⊎_elim (λ (is : i ≡ a). (b, at_second x (subst (λ k. slice_get xs k ≡ Some x) is at)))
      (λ (na : i ≢ a). ⊎_elim (λ (is : i ≡ b). (a, at_first x (subst (λ k. slice_get xs k ≡ Some x) is at))) (λ (nb : i ≢ b). (i, at_other i x na nb at)) (cases_eq i b))
      (cases_eq i a)

-- the first ends stand in their order, and the others behind them
pub record IsOrdered (given : List OperatorSide) (place : ℕ) (now : List OperatorSide) : Type 0 where
  pub long : length now ≡ length given
  pub front : (k : ℕ) (e : OperatorSide) → k < place → slice_get now k ≡ Some e → e.session ≡ k + 1
  pub rest : (k : ℕ) → place ≤ k → k < length given → HasSessionFrom place (k + 1) now
  pub kept : (i : ℕ) (e : OperatorSide) → slice_get given i ≡ Some e → HasEnd e now

pub begins_ordered : (n : ℕ) (given : List OperatorSide) → AreAllEnds n given → IsOrdered given 0 given
begins_ordered n given all = record {
  long = refl;
  front = λ k e lt at. absurd (omega (arith, lt));
  rest = λ k le lt. let h = all.each k (omega (arith, lt, all.count)) in (h.0, h.1, omega arith, h.2, h.3);
  kept = λ i e at. (i, at);
}

pub more_ordered : (given now next : List OperatorSide) (place found : ℕ) → IsOrdered given place now → place < length given → place ≤ found → found < length now
    → ((e : OperatorSide) → slice_get now found ≡ Some e → e.session ≡ place + 1) → length next ≡ length now → SwappedAt now next place found → IsOrdered given (place + 1) next
more_ordered given now next place found h lt from within named long swapped = record {
  long = long ∙ h.long;
  front = λ k e le at. ⊎_elim (λ (is : place ≡ k). named e (was_second now next place found long here within swapped e (subst (λ j. slice_get next j ≡ Some e) (sym is) at)) ∙ ap (λ j. j + 1) is)
      (λ (less : k + 1 ≤ place). h.front k e (omega (arith, less)) (was_other now next place found long here within swapped k e (λ is. absurd (omega (arith, is, less))) (λ is. absurd (omega (arith, is, less, from))) at))
      (at_or_behind k place (omega (arith, le)));
  rest = λ k le less.
      let r = h.rest k (omega (arith, le)) less in
      let i = r.0 in
      let e = r.1 in
      let at = r.3 in
      let apart : i ≢ found = λ is. let n = named e (subst (λ j. slice_get now j ≡ Some e) is at) in absurd (omega (arith, n, r.4, le)) in
      ⊎_elim
      (λ (is : i ≡ place). ⊎_elim (λ (same : found ≡ place). absurd (apart (is ∙ sym same)))
      (λ (behind : place + 1 ≤ found). (found, e, behind, at_second now next place found long here within swapped e (subst (λ j. slice_get now j ≡ Some e) is at), r.4))
      (at_or_behind place found from))
      (λ (behind : place + 1 ≤ i). (i, e, behind, at_other now next place found long here within swapped i e (λ is. absurd (omega (arith, is, behind))) apart at, r.4))
      (at_or_behind place i r.2);
  kept = λ i e at. let k = h.kept i e at in moved now next place found long here within swapped k.0 e k.1;
}
  where
    here : place < length now
    here = omega (arith, lt, h.long)

pub ends_ordered : (given now : List OperatorSide) (place : ℕ) → IsOrdered given place now → length given ≤ place → AreInOrder now
ends_ordered given now place h le k e at = let lt = slice_get_within now k e at in h.front k e (omega (arith, lt, h.long, le)) at

-- what closed mailboxes say of ends that were put in order, they say of the ends as they were passed
pub final_given : (m : List Letters) (given now : List OperatorSide) (d : List Final) (o : ℕ) → length given ≡ length now → ((i : ℕ) (e : OperatorSide) → slice_get given i ≡ Some e → HasEnd e now) → IsFinal m now d o → IsFinal m given d o
final_given m given now d o long kept h = record {
  taken = h.taken;
  objects = h.objects;
  operators = λ i e at. let k = kept i e at in h.operators k.0 e k.1;
  nobody = λ k none. h.nobody k (subst (λ n. IsNoSession n k) long none);
  settled = h.settled;
}

-- new ends are all that there are
pub fresh_all : (n : ℕ) (ends : List OperatorSide) → AreFresh ends → length ends ≡ n → AreAllEnds n ends
fresh_all n ends fresh count = record { count = count; each = λ k lt. let e = there ends k (omega (arith, lt, count)) in (k, e.0, e.1, (fresh k e.0 e.1).0) }
