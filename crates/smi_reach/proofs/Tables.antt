-- What is known of the ways of blocks.
use Rattle.std.proofs.Common.{◌≡◌, ◌<◌, ℕ, zero, suc, List, [], ◌∷◌, ◌++◌, Some, length, slice_get, sym, subst, arith, ⊎_elim}
use Rattle.std.proofs.lemmas.Bool.{cases_eq}
use Rattle.std.proofs.lemmas.List.{get_or_append_left, get_or_push, length_push}
use Rattle.sml_domain.specs.Program.{Instruction}
use Rattle.sml_domain.specs.Domain.{Domain}
use Rattle.sml_domain.specs.Lookups.{tree_of_block}
use Rattle.sml_domain.specs.Places.{NamesBefore, NameBefore}
use Rattle.smi_reach.specs.declared.ways.Way.{Way}
use Rattle.smi_reach.specs.Ways.{AreWays, IsWayOf}

pub names_at : (n : ℕ) (xs : List Instruction) (i : ℕ) (x : Instruction) → NameBefore n xs → slice_get xs i ≡ Some x → NamesBefore n x
names_at n [] i x h e = absurd (cc e)
names_at n (y ∷ ys) zero x h e = subst (NamesBefore n) (cc e) h.0
names_at n (y ∷ ys) (suc i) x h e = names_at n ys i x h.1 e

pub one_more : (d : Domain) (ways : List Way) (w : Way) → AreWays d ways → IsWayOf (tree_of_block d (length ways)) w → AreWays d (ways ++ w ∷ [])
one_more d ways w known new b v lt =
    let long = length_push ways w in
    ⊎_elim (λ e. subst (IsWayOf (tree_of_block d b)) (sym (get_or_push ways w v b (sym e))) (subst (λ k. IsWayOf (tree_of_block d k) w) (sym e) new))
    (λ n. let inside : b < length ways = omega arith in
    subst (IsWayOf (tree_of_block d b)) (sym (get_or_append_left ways (w ∷ []) v b inside)) (known b v inside))
    (cases_eq b (length ways))
