-- What stands in an answer.
use Rattle.std.proofs.Common.{◌≡◌, ◌≢◌, ◌∙◌, sym, ap, subst, ℕ, ◌+◌, ◌-◌, true, false, List, [], ◌∷◌, ◌++◌, Option, Some, None, MatchOption, Bor, append_assoc, codes, length, take, drop, nat_eq}
use Rattle.std.specs.Cmp.Lexicographic.{pointwise}
use Rattle.std.proofs.lemmas.Bool.Decides.{Decides-eqb}
use Rattle.std.proofs.lemmas.List.{append_cancel_right}
use Rattle.std.proofs.lemmas.Slice.Eq.{strip_prefix_is, strip_suffix_is}
use Rattle.smi_live_once.specs.Carrying.{past_text}

-- a text without its end, which is this
pub without_end : (text end this : List ℕ) (r : Option (Bor (List ℕ))) → end ≡ this
    → MatchOption r (pointwise nat_eq (drop (length text - length end) text) end ≡ false)
    (λ x. (pointwise nat_eq (drop (length text - length end) text) end ≡ true) × (x.now ≡ take (length text - length end) text) × (length x.now + length end ≡ length text))
    → MatchOption r ((front : List ℕ) → text ≢ front ++ this) (λ x. text ≡ x.now ++ this)
without_end text end this r e h =
    subst (λ l. MatchOption r ((front : List ℕ) → text ≢ front ++ l) (λ x. text ≡ x.now ++ l)) e (strip_suffix_is Decides-eqb text end r h)

past_is : (what : List ℕ) → past_text what ≡ (codes "past " ++ what) ++ 10 ∷ []
past_is what = sym (append_assoc (codes "past ") what (10 ∷ []))

-- without its end it is not told again
pub not_past : (text : List ℕ) → ((what : List ℕ) → text ≢ what ++ 10 ∷ []) → (what : List ℕ) → text ≢ past_text what
not_past text none what e = none (codes "past " ++ what) (e ∙ past_is what)

-- what stands after the word
pub after_word : (text line : List ℕ) (r : Option (Bor (List ℕ))) → text ≡ line ++ 10 ∷ []
    → MatchOption r (pointwise nat_eq (take 5 line) (codes "past ") ≡ false)
    (λ x. (pointwise nat_eq (take 5 line) (codes "past ") ≡ true) × (x.now ≡ drop 5 line) × (length x.now + 5 ≡ length line))
    → MatchOption r ((what : List ℕ) → text ≢ past_text what) (λ x. text ≡ past_text x.now)
after_word text line r e h = by r (strip_prefix_is Decides-eqb line (codes "past ") r h)
  where
    by : (r : Option (Bor (List ℕ))) → MatchOption r ((rest : List ℕ) → line ≢ codes "past " ++ rest) (λ x. line ≡ codes "past " ++ x.now)
        → MatchOption r ((what : List ℕ) → text ≢ past_text what) (λ x. text ≡ past_text x.now)
    by None g = λ what f. g what (append_cancel_right line (codes "past " ++ what) (10 ∷ []) (sym e ∙ f ∙ past_is what))
    by (Some x) g = e ∙ ap (λ l. l ++ 10 ∷ []) g ∙ sym (past_is x.now)
