-- A log whose last line is whole, and what comes of it.
use Rattle.std.proofs.Common.{◌≡◌, ◌≢◌, inr, subst, ℕ, ◌+◌, ◌-◌, true, false, List, [], ◌∷◌, ◌++◌, length, take, drop, nat_eq, Option, MatchOption, Bor, Result, Ok, Err, IfOk}
use Rattle.std.specs.Cmp.Lexicographic.{pointwise}
use Rattle.std.proofs.lemmas.Bool.Decides.{Decides-eqb}
use Rattle.std.proofs.lemmas.Slice.Eq.{strip_suffix_is}
use Rattle.smirun_live.specs.Reading.{IsOfWholeLines}

-- a text that ends with a line feed is of whole lines
pub of_whole_lines : (log rest : List ℕ) → log ≡ rest ++ 10 ∷ [] → IsOfWholeLines log
of_whole_lines log rest e = inr (rest, e)

-- what holds where a call returned, from what it says of that
pub where_ok : {A E : Type 0} (r : Result A E) (P Q : A → Type 0) → IfOk r P → ((a : A) → P a → Q a) → IfOk r Q
where_ok (Ok x) P Q p f = f x p
where_ok (Err x) P Q p f = p

-- what stands before the end of a text, which is this
pub before_end : (text end this : List ℕ) (r : Option (Bor (List ℕ))) → end ≡ this
    → MatchOption r (pointwise nat_eq (drop (length text - length end) text) end ≡ false)
    (λ x. (pointwise nat_eq (drop (length text - length end) text) end ≡ true) × (x.now ≡ take (length text - length end) text) × (length x.now + length end ≡ length text))
    → MatchOption r ((front : List ℕ) → text ≢ front ++ this) (λ x. text ≡ x.now ++ this)
before_end text end this r e h =
    subst (λ l. MatchOption r ((front : List ℕ) → text ≢ front ++ l) (λ x. text ≡ x.now ++ l)) e (strip_suffix_is Decides-eqb text end r h)
