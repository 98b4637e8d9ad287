-- What stands in front of a text.
use Rattle.std.proofs.Common.{◌≡◌, ◌≢◌, ◌∙◌, sym, ap, refl, subst, ℕ, suc, ◌<◌, ◌≤◌, ◌+◌, ◌-◌, Bool, true, false, List, [], ◌∷◌, ◌++◌, Option, Some, None, MatchOption, option_map, append_assoc, length, take, drop, get_or, length-append, nat_eq, take-append-drop, arith}
use Rattle.std.proofs.Math.Seq.{drop-append_seam, drop-cons, take-append_seam, take-length, take-suc}
use Rattle.std.proofs.lemmas.Bool.Decides.{nat_tests}
use Rattle.std.proofs.lemmas.List.{append_cancel_left}
use Rattle.std.specs.Cmp.Lexicographic.{pointwise, same_text}
use Rattle.std.specs.Borrow.{Bor}
use Rattle.sml_text.specs.Bytes.{no_line_feed}
use Rattle.sml_text.specs.Tokens.{Each, Over}
use Rattle.smi_outset_text.specs.Reading.{FollowsFront, Precedes}

abbrev rest_of : List ℕ → List ℕ
rest_of [] = []
rest_of (c ∷ cs) = cs

-- equal texts
itself : (x : List ℕ) → pointwise nat_eq x x ≡ true
itself [] = refl
itself (c ∷ cs) = grind (arith, nat_tests, itself cs)

pub not_same : (x y : List ℕ) → pointwise nat_eq x y ≡ false → x ≢ y
not_same x y h e = let f : ◌≡◌ {A = Bool} true false = sym (itself x) ∙ ap (pointwise nat_eq x) e ∙ h in cc f

pub is_same : (x y : List ℕ) → pointwise nat_eq x y ≡ true → x ≡ y
is_same x y h = same_text x y (sym h)

-- what strip_prefix returns
pub stripped : (text front : List ℕ) (r : Option (Bor (List ℕ)))
    → MatchOption r (pointwise nat_eq (take (length front) text) front ≡ false)
    (λ x. (pointwise nat_eq (take (length front) text) front ≡ true) × (x.now ≡ drop (length front) text) × (length x.now + length front ≡ length text))
    → FollowsFront text front (option_map (λ more. more.now) r)
stripped text front None h = λ more e. not_same (take (length front) text) front h (ap (take (length front)) e ∙ take-append_seam front more)
stripped text front (Some x) h =
    sym (take-append-drop (length front) text) ∙ ap (λ l. l ++ drop (length front) text) (is_same (take (length front) text) front h.0)
    ∙ ap (λ l. front ++ l) (sym h.1)

-- what strip_suffix returns
pub stripped_end : (text end : List ℕ) (r : Option (Bor (List ℕ)))
    → MatchOption r (pointwise nat_eq (drop (length text - length end) text) end ≡ false)
    (λ x. (pointwise nat_eq (drop (length text - length end) text) end ≡ true) × (x.now ≡ take (length text - length end) text) × (length x.now + length end ≡ length text))
    → Precedes text end (option_map (λ front. front.now) r)
stripped_end text end None h = λ front e.
    let size : length text ≡ length front + length end = ap length e ∙ length-append front end in
    let place : length text - length end ≡ length front = omega (arith, size) in
    not_same (drop (length text - length end) text) end h (ap (λ n. drop n text) place ∙ ap (drop (length front)) e ∙ drop-append_seam front end)
stripped_end text end (Some x) h =
    sym (take-append-drop (length text - length end) text)
    ∙ ap (λ l. take (length text - length end) text ++ l) (is_same (drop (length text - length end) text) end h.0)
    ∙ ap (λ l. l ++ end) (sym h.1)

-- what follows two texts
pub follows_both : (text a mid b : List ℕ) (r : Option (List ℕ)) → text ≡ a ++ mid → FollowsFront mid b r → FollowsFront text (a ++ b) r
follows_both text a mid b (Some more) h g = h ∙ ap (λ l. a ++ l) g ∙ sym (append_assoc a b more)
follows_both text a mid b None h g = λ more e. g more (append_cancel_left a mid (b ++ more) (sym h ∙ e ∙ append_assoc a b more))

pub follows_none : (text a b : List ℕ) → FollowsFront text a None → FollowsFront text (a ++ b) None
follows_none text a b h = λ more e. h (b ++ more) (e ∙ append_assoc a b more)

-- words of bytes that pass, with others behind them, are one
pub one_front : (P : ℕ → Bool) (n m e f : List ℕ) → Each P n → Each P m → Over P e → Over P f → n ++ e ≡ m ++ f → (n ≡ m) × (e ≡ f)
one_front P [] [] e f hn hm oe of eq = (refl, eq)
one_front P [] (c ∷ m) e f hn hm oe of eq = absurd (over_not P c (m ++ f) hm.0 (subst (Over P) eq oe))
  where
    over_not : (P : ℕ → Bool) (c : ℕ) (cs : List ℕ) → P c ≡ true → Over P (c ∷ cs) → ⊥
    over_not P c cs t o = let x : ◌≡◌ {A = Bool} true false = sym t ∙ o in cc x
one_front P (c ∷ n) [] e f hn hm oe of eq = absurd (over_not P c (n ++ e) hn.0 (subst (Over P) (sym eq) of))
  where
    over_not : (P : ℕ → Bool) (c : ℕ) (cs : List ℕ) → P c ≡ true → Over P (c ∷ cs) → ⊥
    over_not P c cs t o = let x : ◌≡◌ {A = Bool} true false = sym t ∙ o in cc x
one_front P (c ∷ n) (b ∷ m) e f hn hm oe of eq =
    let r = one_front P n m e f hn.1 hm.1 oe of (ap rest_of eq) in
    (cons_same c b n m (ap (λ l. get_or l 0 0) eq) r.0, r.1)
  where
    cons_same : (c b : ℕ) (n m : List ℕ) → c ≡ b → n ≡ m → c ∷ n ≡ b ∷ m
    cons_same c b n m p q = ap (λ x. x ∷ n) p ∙ ap (λ l. b ∷ l) q

-- a line in front is one, with what follows it
pub one_line_front : (a b t u : List ℕ) → Each no_line_feed a → Each no_line_feed b → a ++ 10 ∷ t ≡ b ++ 10 ∷ u → (a ≡ b) × (t ≡ u)
one_line_front a b t u ha hb e =
    let r = one_front no_line_feed a b (10 ∷ t) (10 ∷ u) ha hb refl refl e in (r.0, ap rest_of r.1)

-- where no line feed is there is no line
pub no_feed_no_line : (text a t : List ℕ) → Each no_line_feed text → text ≡ a ++ 10 ∷ t → ⊥
no_feed_no_line text a t h e = none a t (subst (Each no_line_feed) e h)
  where
    none : (a t : List ℕ) → Each no_line_feed (a ++ 10 ∷ t) → ⊥
    none [] t h = let x : ◌≡◌ {A = Bool} false true = h.0 in cc x
    none (c ∷ a) t h = none a t h.1

each_append : (P : ℕ → Bool) (xs ys : List ℕ) → Each P xs → Each P ys → Each P (xs ++ ys)
each_append P [] ys h g = g
each_append P (x ∷ xs) ys h g = (h.0, each_append P xs ys h.1 g)

-- one byte more is no line feed
pub feed_more : (text : List ℕ) (n : ℕ) → n < length text → Each no_line_feed (take n text) → get_or text n 0 ≢ 10 → Each no_line_feed (take (n + 1) text)
feed_more text n lt one not =
    let next : n + 1 ≡ suc n = omega arith in
    let passes : no_line_feed (get_or text n 0) ≡ true = grind (arith, nat_tests, not) in
    subst (Each no_line_feed) (sym (ap (λ k. take k text) next ∙ take-suc text n 0 lt))
    (each_append no_line_feed (take n text) (get_or text n 0 ∷ []) one (passes, tt))

-- where a line feed is, the line ends
pub line_at : (text front more : List ℕ) (n : ℕ) → n < length text → front ≡ take n text → more ≡ drop (n + 1) text → get_or text n 0 ≡ 10 → text ≡ front ++ 10 ∷ more
line_at text front more n lt f m feed =
    let one : suc n ≡ n + 1 = omega arith in
    sym (take-append-drop n text) ∙ ap (λ l. take n text ++ l) (drop-cons text n 0 lt ∙ ap (λ k. get_or text n 0 ∷ drop k text) one ∙ ap (λ c. c ∷ drop (n + 1) text) feed)
    ∙ ap (λ l. l ++ 10 ∷ drop (n + 1) text) (sym f) ∙ ap (λ l. front ++ 10 ∷ l) (sym m)

-- where none is before the end, the text has no line
pub no_line : (text : List ℕ) (n : ℕ) → n ≤ length text → length text ≤ n → Each no_line_feed (take n text) → Each no_line_feed text
no_line text n le ge h =
    let e : n ≡ length text = omega (arith, le, ge) in
    subst (Each no_line_feed) (ap (λ k. take k text) e ∙ take-length text) h
