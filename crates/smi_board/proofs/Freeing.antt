-- One after another, those that are listed with an object are freed.
use Rattle.std.proofs.Common.{◌≡◌, ◌<◌, ◌+◌, ℕ, zero, suc, Bool, true, List, [], ◌∷◌, length, Option, Some, None, refl, sym, ◌∙◌, subst, ⊎_elim, arith}
use Rattle.std.specs.Prelude.{slice_set}
use Rattle.std.proofs.lemmas.Bool.{cases_eq}
use Rattle.std.proofs.lemmas.List.{get_or-set_other, get_or-set_same}
use Rattle.smi_board.specs.Holders.{holder_of}
use Rattle.smi_board.specs.Looks.{IsFreed}
use Rattle.smi_board.specs.Rings.{is_in_ring, with_one}
use Rattle.smi_board.proofs.Looks.{in_one, in_other}

-- one that was listed with an object is freed, or listed with it still, and any other is as it was
pub record IsFreeing (x : ℕ) (holder holder2 : Option ℕ) (looks looks2 : Bool) : Type 0 where
  pub freed : holder ≡ Some x → (holder2 ≡ Some x → ⊥) → (holder2 ≡ None) × (looks2 ≡ true)
  pub other : (holder ≡ Some x → ⊥) → (holder2 ≡ holder) × (looks2 ≡ looks)

-- at first all are as they were
pub freeing_first : (x : ℕ) (holder : Option ℕ) (looks : Bool) → IsFreeing x holder holder looks looks
freeing_first x holder looks = record { freed = λ is not. absurd (not is); other = λ not. (refl, refl) }

-- at last none is listed with it
pub freed_at_last : (x : ℕ) (holder holder2 : Option ℕ) (looks looks2 : Bool)
    → IsFreeing x holder holder2 looks looks2 → (holder2 ≡ Some x → ⊥)
    → IsFreed x holder holder2 looks looks2
freed_at_last x holder holder2 looks looks2 h none = record { freed = λ is. h.freed is none; other = h.other }

-- one more is freed
pub freeing_more : (x o : ℕ) (was holders holders2 : List (Option ℕ)) (list0 list list2 : List ℕ)
    → o < length holders → holder_of holders o ≡ Some x
    → holders2 ≡ slice_set holders o None → list2 ≡ with_one o list
    → ((y : ℕ) → IsFreeing x (holder_of was y) (holder_of holders y) (is_in_ring y list0) (is_in_ring y list))
    → (y : ℕ) → IsFreeing x (holder_of was y) (holder_of holders2 y) (is_in_ring y list0) (is_in_ring y list2)
freeing_more x o was holders holders2 list0 list list2 lt held set added h y =
    subst (λ hs. IsFreeing x (holder_of was y) (holder_of hs y) (is_in_ring y list0) (is_in_ring y list2)) (sym set)
    (subst (λ l. IsFreeing x (holder_of was y) (holder_of (slice_set holders o None) y) (is_in_ring y list0) (is_in_ring y l))
    (sym added)
    (⊎_elim at apart (cases_eq y o)))
  where
    own : IsFreeing x (holder_of was o) None (is_in_ring o list0) true
    own = record {
      freed = λ is not. (refl, refl);
      other = λ not. absurd (not (sym ((h o).other not).0 ∙ held));
    }

    at : y ≡ o → IsFreeing x (holder_of was y) (holder_of (slice_set holders o None) y) (is_in_ring y list0)
        (is_in_ring y (with_one o list))
    at e =
        subst (λ z. IsFreeing x (holder_of was z) (holder_of (slice_set holders o None) z) (is_in_ring z list0)
        (is_in_ring z (with_one o list))) (sym e)
        (subst (λ k. IsFreeing x (holder_of was o) k (is_in_ring o list0) (is_in_ring o (with_one o list)))
        (sym (get_or-set_same holders o None None lt))
        (subst (IsFreeing x (holder_of was o) None (is_in_ring o list0)) (sym (in_one o list)) own))

    apart : (y ≡ o → ⊥) → IsFreeing x (holder_of was y) (holder_of (slice_set holders o None) y) (is_in_ring y list0)
        (is_in_ring y (with_one o list))
    apart ne =
        subst (λ k. IsFreeing x (holder_of was y) k (is_in_ring y list0) (is_in_ring y (with_one o list)))
        (sym (get_or-set_other holders o y None None ne))
        (subst (IsFreeing x (holder_of was y) (holder_of holders y) (is_in_ring y list0)) (sym (in_other y o list ne)) (h y))

-- how many are listed
pub listed_count : List (Option ℕ) → ℕ
listed_count [] = 0
listed_count (None ∷ holders) = listed_count holders
listed_count (Some x ∷ holders) = 1 + listed_count holders

-- one less, where one is freed
pub one_less : (holders : List (Option ℕ)) (o x : ℕ) → holder_of holders o ≡ Some x
    → listed_count (slice_set holders o None) < listed_count holders
unfolding listed_count
one_less [] o x is = absurd (cc is)
one_less (None ∷ holders) zero x is = absurd (cc is)
one_less (Some y ∷ holders) zero x is = omega arith
one_less (None ∷ holders) (suc o) x is = one_less holders o x is
one_less (Some y ∷ holders) (suc o) x is = let rest = one_less holders o x is in omega (arith, rest)
