-- A text that is cut where it has a front, or at a byte.
use Rattle.std.proofs.Common.{◌≡◌, ◌≢◌, ◌∙◌, sym, ap, refl, subst, ℕ, suc, ◌<◌, ◌≤◌, ◌+◌, ◌^◌, Bool, true, false, List, [], ◌∷◌, ◌++◌, Option, Some, None, MatchOption, option_map, append_assoc, length, take, drop, get_or, nat_eq, take-append-drop, arith}
use Rattle.std.proofs.Math.Seq.{drop-cons, take-append_seam, take-length, take-suc}
use Rattle.std.proofs.lemmas.Bool.Decides.{nat_tests}
use Rattle.std.proofs.lemmas.List.{append_cancel_left}
use Rattle.std.specs.Cmp.Lexicographic.{pointwise}
use Rattle.std.specs.Borrow.{Bor}
use Rattle.sml_text.specs.Bytes.{is_digit}
use Rattle.sml_text.specs.Decimal.{decimal_text}
use Rattle.sml_text.specs.Tokens.{Each}
use Rattle.sml_text.proofs.Decimals.{some_decimal}
use Rattle.smi_live_once.proofs.Decimals.{is_same_text, not_same}
use Rattle.smi_carried.specs.Pieces.{ComesAfter, is_other_byte}

abbrev rest_of : List ℕ → List ℕ
rest_of [] = []
rest_of (c ∷ cs) = cs

-- what strip_prefix returns
pub stripped : (text front : List ℕ) (r : Option (Bor (List ℕ)))
    → MatchOption r (pointwise nat_eq (take (length front) text) front ≡ false)
    (λ x. (pointwise nat_eq (take (length front) text) front ≡ true) × (x.now ≡ drop (length front) text) × (length x.now + length front ≡ length text))
    → ComesAfter text front (option_map (λ more. more.now) r)
stripped text front None h = λ more e. not_same (take (length front) text) front h (ap (take (length front)) e ∙ take-append_seam front more)
stripped text front (Some x) h =
    sym (take-append-drop (length front) text) ∙ ap (λ l. l ++ drop (length front) text) (is_same_text (take (length front) text) front h.0)
    ∙ ap (λ l. front ++ l) (sym h.1)

-- what comes after two texts
pub after_both : (text a mid b : List ℕ) (r : Option (List ℕ)) → text ≡ a ++ mid → ComesAfter mid b r → ComesAfter text (a ++ b) r
after_both text a mid b (Some more) h g = h ∙ ap (λ l. a ++ l) g ∙ sym (append_assoc a b more)
after_both text a mid b None h g = λ more e. g more (append_cancel_left a mid (b ++ more) (sym h ∙ e ∙ append_assoc a b more))

pub after_none : (text a b : List ℕ) → ComesAfter text a None → ComesAfter text (a ++ b) None
after_none text a b h = λ more e. h (b ++ more) (e ∙ append_assoc a b more)

-- ---- at a byte

-- the byte is not another
not_other : (b : ℕ) → is_other_byte b b ≡ true → ⊥
not_other b h = grind (arith, nat_tests)

-- a text without the byte is not cut there
pub no_cut : (b : ℕ) (text a t : List ℕ) → Each (is_other_byte b) text → text ≢ a ++ b ∷ t
no_cut b text a t h e = none a (subst (Each (is_other_byte b)) e h)
  where
    none : (a : List ℕ) → Each (is_other_byte b) (a ++ b ∷ t) → ⊥
    none [] h = not_other b h.0
    none (c ∷ a) h = none a h.1

-- a text is cut at one place
pub one_cut : (b : ℕ) (x y t u : List ℕ) → Each (is_other_byte b) x → Each (is_other_byte b) y → x ++ b ∷ t ≡ y ++ b ∷ u → (x ≡ y) × (t ≡ u)
one_cut b [] [] t u hx hy e = (refl, ap rest_of e)
one_cut b [] (c ∷ y) t u hx hy e = let f : b ≡ c = cc e in absurd (not_other b (subst (λ k. is_other_byte b k ≡ true) (sym f) hy.0))
one_cut b (c ∷ x) [] t u hx hy e = let f : c ≡ b = cc e in absurd (not_other b (subst (λ k. is_other_byte b k ≡ true) f hx.0))
one_cut b (c ∷ x) (k ∷ y) t u hx hy e =
    let f : c ≡ k = cc e in
    let r = one_cut b x y t u hx.1 hy.1 (ap rest_of e) in
    (ap (λ z. z ∷ x) f ∙ ap (λ l. k ∷ l) r.0, r.1)

pub each_append : (P : ℕ → Bool) (xs ys : List ℕ) → Each P xs → Each P ys → Each P (xs ++ ys)
each_append P [] ys h g = g
each_append P (x ∷ xs) ys h g = (h.0, each_append P xs ys h.1 g)

pub each_more : (P Q : ℕ → Bool) (w : List ℕ) → ((c : ℕ) → P c ≡ true → Q c ≡ true) → Each P w → Each Q w
each_more P Q [] f h = tt
each_more P Q (c ∷ w) f h = (f c h.0, each_more P Q w f h.1)

-- one byte more is another
pub other_more : (b : ℕ) (text : List ℕ) (n : ℕ) → n < length text → Each (is_other_byte b) (take n text) → get_or text n 0 ≢ b → Each (is_other_byte b) (take (n + 1) text)
other_more b text n lt one not =
    let next : n + 1 ≡ suc n = omega arith in
    let passes : is_other_byte b (get_or text n 0) ≡ true = grind (arith, nat_tests, not) in
    subst (Each (is_other_byte b)) (sym (ap (λ k. take k text) next ∙ take-suc text n 0 lt))
    (each_append (is_other_byte b) (take n text) (get_or text n 0 ∷ []) one (passes, tt))

-- where the byte is, the text is cut
pub cut_at : (b : ℕ) (text front more : List ℕ) (n : ℕ) → n < length text → front ≡ take n text → more ≡ drop (n + 1) text → get_or text n 0 ≡ b → text ≡ front ++ b ∷ more
cut_at b text front more n lt f m is =
    let one : suc n ≡ n + 1 = omega arith in
    sym (take-append-drop n text) ∙ ap (λ l. take n text ++ l) (drop-cons text n 0 lt ∙ ap (λ k. get_or text n 0 ∷ drop k text) one ∙ ap (λ c. c ∷ drop (n + 1) text) is)
    ∙ ap (λ l. l ++ b ∷ drop (n + 1) text) (sym f) ∙ ap (λ l. front ++ b ∷ l) (sym m)

-- where it is not before the end, it is not there
pub no_end : (b : ℕ) (text : List ℕ) (n : ℕ) → n ≤ length text → length text ≤ n → Each (is_other_byte b) (take n text) → Each (is_other_byte b) text
no_end b text n le ge h =
    let e : n ≡ length text = omega (arith, le, ge) in
    subst (Each (is_other_byte b)) (ap (λ k. take k text) e ∙ take-length text) h

-- ---- numbers

digit_differs : (b c : ℕ) → is_digit b ≡ false → is_digit c ≡ true → is_other_byte b c ≡ true
digit_differs b c hb hc = by (is_other_byte b c) refl
  where
    by : (r : Bool) → is_other_byte b c ≡ r → r ≡ true
    by true e = refl
    by false e =
        let same : c ≡ b = grind (arith, nat_tests, e) in
        let f : ◌≡◌ {A = Bool} true false = sym hc ∙ ap is_digit same ∙ hb in
        absurd (cc f)

-- no digit of a number is a byte that is none
pub number_bytes : (b n : ℕ) → is_digit b ≡ false → n < 2 ^ 64 → Each (is_other_byte b) (decimal_text n)
number_bytes b n h small = each_more is_digit (is_other_byte b) (decimal_text n) (λ c. digit_differs b c h) (some_decimal n small).digits

-- what is cut there is the text of no number
pub no_number_cut : (b : ℕ) (text : List ℕ) → Each (is_other_byte b) text → (n : ℕ) (more : List ℕ) → n < 2 ^ 64 → text ≢ decimal_text n ++ b ∷ more
no_number_cut b text h n more small = no_cut b text (decimal_text n) more h

pub no_number : (b : ℕ) (text digits rest : List ℕ) → is_digit b ≡ false → text ≡ digits ++ b ∷ rest → Each (is_other_byte b) digits
    → ((n : ℕ) → n < 2 ^ 64 → digits ≡ decimal_text n → ⊥) → (n : ℕ) (more : List ℕ) → n < 2 ^ 64 → text ≢ decimal_text n ++ b ∷ more
no_number b text digits rest h is each none n more small e =
    none n small (one_cut b digits (decimal_text n) rest more each (number_bytes b n h small) (sym is ∙ e)).0
