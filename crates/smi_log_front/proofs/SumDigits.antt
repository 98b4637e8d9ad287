-- A SHA-1 in front of a text.
use Rattle.std.proofs.Common.{◌≡◌, ◌≢◌, ◌∙◌, sym, ap, ℕ, ◌+◌, ◌==◌, Bool, true, false, List, ◌++◌, drop, length, take, arith}
use Rattle.std.proofs.Math.Seq.{drop-append_seam, take-append_seam}
use Rattle.std.proofs.lemmas.Bool.Decides.{nat_tests}
use Rattle.std.specs.List.{list_all}
use Rattle.smi_carried.proofs.Names.{both_true}
use Rattle.smi_log_front.specs.declared.sums.TheConstants.{SUM_DIGITS}
use Rattle.smi_log_front.specs.Sums.{is_log_sum, is_sum_digit}

pub sum_length : (sum : List ℕ) → is_log_sum sum ≡ true → length sum ≡ SUM_DIGITS
sum_length sum h =
    let size : (length sum == SUM_DIGITS) ≡ true = (both_true (length sum == SUM_DIGITS) (list_all is_sum_digit sum) h).0 in
    grind (arith, nat_tests, size)

-- texts of one length in front of one text are one
pub one_front : (a b t u : List ℕ) → length a ≡ length b → a ++ t ≡ b ++ u → (a ≡ b) × (t ≡ u)
one_front a b t u same e = (
  sym (take-append_seam a t) ∙ ap (take (length a)) e ∙ ap (λ n. take n (b ++ u)) same ∙ take-append_seam b u,
  sym (drop-append_seam a t) ∙ ap (drop (length a)) e ∙ ap (λ n. drop n (b ++ u)) same ∙ drop-append_seam b u,
)

pub one_sum : (a b t u : List ℕ) → is_log_sum a ≡ true → is_log_sum b ≡ true → a ++ t ≡ b ++ u → (a ≡ b) × (t ≡ u)
one_sum a b t u ha hb e = one_front a b t u (sum_length a ha ∙ sym (sum_length b hb)) e

pub other_sum : (text front : List ℕ) → front ≡ take SUM_DIGITS text → is_log_sum front ≡ false → (sum more : List ℕ) → is_log_sum sum ≡ true
    → text ≢ sum ++ more
other_sum text front is not sum more h e =
    let same : front ≡ sum = is ∙ ap (take SUM_DIGITS) e ∙ ap (λ n. take n (sum ++ more)) (sym (sum_length sum h)) ∙ take-append_seam sum more in
    let f : ◌≡◌ {A = Bool} true false = sym h ∙ ap is_log_sum (sym same) ∙ not in cc f
