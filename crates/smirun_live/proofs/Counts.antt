-- The lines of how all stands that tell what a manager keeps.
use Rattle.std.proofs.Common.{◌≡◌, ◌∙◌, sym, ap, refl, ℕ, zero, suc, ◌<◌, ◌+◌, ◌++◌, ◌∷◌, [], List, Option, Some, arith, codes, flat_map, slice_get}
use Rattle.std.specs.List.{range_with_len}
use Rattle.std.proofs.lemmas.List.{flat_map_more}
use Rattle.sml_text.specs.Decimal.{decimal_text}
use Rattle.sml_domain.specs.Domain.{Domain}
use Rattle.smi_journal.specs.CallText.{object_name_text, spaced}
use Rattle.smi_live_once.specs.Tables.{OnceTold}
use Rattle.smi_request_fates.specs.declared.counts.Counts.{Counts}
use Rattle.smi_request_fates.specs.declared.fate.Stands.{Stands}
use Rattle.smi_request_fates.specs.Kept.{WatchedView}
use Rattle.smirun_live.specs.Standing.{came_text, count_line, once_line, stands_now}

-- a count that is not 0 has its line, and 0 has none
pub some_count : (d : Domain) (o : ℕ) (word : List ℕ) (n : ℕ) → 0 < n → word ++ (spaced (object_name_text d o) ++ (spaced (decimal_text n) ++ codes "\n")) ≡ count_line d o word n
some_count d o word zero h = absurd (omega (arith, h))
some_count d o word (suc n) h = refl

pub no_count : (d : Domain) (o : ℕ) (word : List ℕ) (n : ℕ) → n ≡ 0 → [] ≡ count_line d o word n
no_count d o word zero h = refl
no_count d o word (suc n) h = absurd (omega (arith, h))

-- a range, with its last number by itself
range_with_last : (a n : ℕ) → range_with_len a (suc n) ≡ range_with_len a n ++ (a + n) ∷ []
range_with_last a zero = let e : a ≡ a + 0 = omega arith in ap (λ k. k ∷ []) e
range_with_last a (suc n) =
    let e : (a + 1) + n ≡ a + suc n = omega arith in
    ap (λ l. a ∷ l) (range_with_last (a + 1) n ∙ ap (λ k. range_with_len (a + 1) n ++ k ∷ []) e)

range_of_one_more : (n : ℕ) → range_with_len 0 (n + 1) ≡ range_with_len 0 n ++ n ∷ []
range_of_one_more n =
    let e : n + 1 ≡ suc n = omega arith in
    let z : 0 + n ≡ n = omega arith in
    ap (range_with_len 0) e ∙ range_with_last 0 n ∙ ap (λ k. range_with_len 0 n ++ k ∷ []) z

-- the lines of one place more
pub lines_of_one_more : (line : ℕ → List ℕ) (n : ℕ) → flat_map line (range_with_len 0 n) ++ line n ≡ flat_map line (range_with_len 0 (n + 1))
lines_of_one_more line n = flat_map_more line [] (range_with_len 0 n) n ∙ ap (flat_map line) (sym (range_of_one_more n))

-- the line of what stands at a place
pub once_is : (d : Domain) (counts : List Counts) (told : List OnceTold) (watched : List WatchedView) (p : ℕ) (t : OnceTold) (w : WatchedView) (now : Option Stands) → slice_get told p ≡ Some t → slice_get watched p ≡ Some w → now ≡ stands_now counts w.object
    → codes "once" ++ (spaced t.name ++ (spaced (decimal_text t.number) ++ came_text d w now t.answer w.came)) ≡ once_line d counts (slice_get told p) (slice_get watched p)
once_is d counts told watched p t w now e f g =
    ap (λ n. codes "once" ++ (spaced t.name ++ (spaced (decimal_text t.number) ++ came_text d w n t.answer w.came))) g
    ∙ sym (ap (λ x. once_line d counts x (slice_get watched p)) e ∙ ap (once_line d counts (Some t)) f)
