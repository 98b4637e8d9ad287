-- What one more entry does to what a journal says.
use Rattle.std.proofs.Common.{◌≡◌, ℕ, ◌+◌, Bool, true, false, cond, List, [], ◌∷◌, ◌++◌, length, fold, Option, None, Some, sym, refl, ap, ◌∙◌, arith}
use Rattle.std.proofs.lemmas.List.Sums.{fold-append}
use Rattle.std.proofs.lemmas.List.{flat_map_more}
use Rattle.std.specs.List.{position_from}
use Rattle.smi_journal_entries.specs.declared.entry.Entry.{Entry}
use Rattle.sml_domain.specs.Domain.{Domain}
use Rattle.smi_journal_entries.specs.Sets.{unchanged, sets_next, sets_after}
use Rattle.smi_journal_entries.specs.Words.{all_starts, any_start, starts_at, start_in, posts_between, post_in, open_at, open_next, state_after, state_next, shown_of, shown_next, waits_at, waits_next, killed_at, killed_next, kills, place_next}
use Rattle.smi_journal_entries.specs.Laws.{OneMore}

pub all_more : (J : List Entry) (e : Entry) → all_starts (J ++ e ∷ []) ≡ all_starts J ++ any_start e
all_more J e = sym (flat_map_more any_start [] J e)

pub starts_more : (o : ℕ) (J : List Entry) (e : Entry) → starts_at o (J ++ e ∷ []) ≡ starts_at o J ++ start_in o e
starts_more o J e = sym (flat_map_more (start_in o) [] J e)

pub posts_more : (a b : ℕ) (J : List Entry) (e : Entry) → posts_between a b (J ++ e ∷ []) ≡ posts_between a b J ++ post_in a b e
posts_more a b J e = sym (flat_map_more (post_in a b) [] J e)

pub open_more : (o : ℕ) (J : List Entry) (e : Entry) → open_at o (J ++ e ∷ []) ≡ open_next o (open_at o J) e
open_more o J e = fold-append (open_next o) None J (e ∷ [])

pub state_more : (o first dead : ℕ) (J : List Entry) (e : Entry) → state_after o first dead (J ++ e ∷ []) ≡ state_next o dead (state_after o first dead J) e
state_more o first dead J e = fold-append (state_next o dead) first J (e ∷ [])

pub sets_more : (d : Domain) (J : List Entry) (e : Entry) → sets_after d (J ++ e ∷ []) ≡ sets_next d (sets_after d J) e
sets_more d J e = fold-append (sets_next d) (unchanged d) J (e ∷ [])

-- a fold over pairs, whose first is a fold by itself
abbrev both_next : {S I E : Type 0} → (S → E → S) → (S → I → E → I) → (S × I) → E → S × I
both_next next show w e = (next w.0 e, show w.0 w.1 e)

first_alone : {S I E : Type 0} (next : S → E → S) (show : S → I → E → I) (w : S × I) (J : List E) → (fold (both_next next show) w J).0 ≡ fold next w.0 J
first_alone next show w [] = refl
first_alone next show w (e ∷ J) = first_alone next show (both_next next show w e) J

second_more : {S I E : Type 0} (next : S → E → S) (show : S → I → E → I) (s : S) (i : I) (J : List E) (e : E)
    → (fold (both_next next show) (s, i) (J ++ e ∷ [])).1 ≡ show (fold next s J) (fold (both_next next show) (s, i) J).1 e
second_more next show s i J e =
    ap (λ w. w.1) (fold-append (both_next next show) (s, i) J (e ∷ []))
    ∙ ap (λ x. show x (fold (both_next next show) (s, i) J).1 e) (first_alone next show (s, i) J)

pub shown_more : (d : Domain) (o : ℕ) (J : List Entry) (e : Entry) → shown_of d o (J ++ e ∷ []) ≡ shown_next o (sets_after d J) (shown_of d o J) e
shown_more d o J e = second_more (sets_next d) (shown_next o) (unchanged d) [] J e

pub waits_more : (o : ℕ) (J : List Entry) (e : Entry) → waits_at o (J ++ e ∷ []) ≡ waits_next o (waits_at o J) e
waits_more o J e = fold-append (waits_next o) false J (e ∷ [])

-- the first place at which a test passes, with one more element
step : (i n : ℕ) (rest more : Option ℕ) (passes b : Bool) → more ≡ place_next n rest passes → cond b (Some i) more ≡ place_next n (cond b (Some i) rest) passes
step i n rest more passes true e = refl
step i n rest more passes false e = e

place_more : {X : Type 0} (t : X → Bool) (xs : List X) (y : X) (i n : ℕ) → i + length xs ≡ n → position_from t i (xs ++ y ∷ []) ≡ place_next n (position_from t i xs) (t y)
place_more t [] y i n is =
    let e : i ≡ n = omega arith in
    ap (λ k. cond (t y) (Some k) None) e
place_more t (x ∷ xs) y i n is =
    step i n (position_from t (i + 1) xs) (position_from t (i + 1) (xs ++ y ∷ [])) (t y) (t x) (place_more t xs y (i + 1) n (omega arith))

pub killed_more : (o : ℕ) (J : List Entry) (e : Entry) → killed_at o (J ++ e ∷ []) ≡ killed_next o (length J) (killed_at o J) e
killed_more o J e = place_more (kills o) J e 0 (length J) (omega arith)

pub one_more : (J : List Entry) (e : Entry) → OneMore J e
one_more J e = record {
  all = all_more J e;
  starts = λ o. starts_more o J e;
  posts = λ a b. posts_more a b J e;
  opened = λ o. open_more o J e;
  state = λ o first dead. state_more o first dead J e;
  sets = λ d. sets_more d J e;
  shown = λ d o. shown_more d o J e;
  waits = λ o. waits_more o J e;
  killed = λ o. killed_more o J e;
}
