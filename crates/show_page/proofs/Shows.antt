-- What a browser shows of texts that stand in a page.
use Rattle.std.proofs.Common.{◌≡◌, ◌∙◌, sym, ap, refl, subst, arith, ℕ, Bool, true, false, not, cond, ◌==◌, ◌&&◌, List, [], ◌∷◌, ◌++◌, codes}
use Rattle.std.proofs.lemmas.Bool.Decides.{nat_tests}
use Rattle.sml_text.specs.Tokens.{Each}
use Rattle.show_page.specs.Escapes.{escaped_byte, escaped, begins, Shown, first_shown, shown_behind, unescaped}
use Rattle.show_page.specs.Laws.{is_no_mark}

same_number : (a b : ℕ) → (a == b) ≡ true → a ≡ b
same_number a b e = grind (arith, nat_tests)

-- what is chosen where no test holds
last_chosen : {X : Type 0} (p q r : Bool) (x y z last : X) → p ≡ false → q ≡ false → r ≡ false → cond p x (cond q y (cond r z last)) ≡ last
last_chosen false false false x y z last e f g = refl
last_chosen true q r x y z last e f g = absurd (cc e)
last_chosen false true r x y z last e f g = absurd (cc f)
last_chosen false false true x y z last e f g = absurd (cc g)

-- and where each test has that one for its first part
last_of_both : {X : Type 0} (p i j k : Bool) (x y z last : X) → p ≡ false → cond (p && i) x (cond (p && j) y (cond (p && k) z last)) ≡ last
last_of_both false i j k x y z last e = refl
last_of_both true i j k x y z last e = absurd (cc e)

neither : (q r : Bool) → q ≡ false → r ≡ false → (not q && not r) ≡ true
neither false false f g = refl
neither true r f g = absurd (cc f)
neither false true f g = absurd (cc g)

-- another byte stands in a page as it is
plain_byte : (b : ℕ) → (b == 38) ≡ false → (b == 60) ≡ false → (b == 62) ≡ false → escaped_byte b ≡ b ∷ []
plain_byte b e f g = last_chosen (b == 38) (b == 60) (b == 62) (codes "&amp;") (codes "&lt;") (codes "&gt;") (b ∷ []) e f g

-- and is shown as it is
plain_shown : (b : ℕ) (bs : List ℕ) → (b == 38) ≡ false → first_shown b bs ≡ record { byte = b; more = 0 }
plain_shown b bs e = last_of_both (b == 38) (begins (codes "amp;") bs) (begins (codes "lt;") bs) (begins (codes "gt;") bs)
    (record { byte = 38; more = 4 }) (record { byte = 60; more = 3 }) (record { byte = 62; more = 3 }) (record { byte = b; more = 0 }) e

-- an escaped byte is shown as that byte
byte_shown : (b : ℕ) (rest : List ℕ) (p q r : Bool) → (b == 38) ≡ p → (b == 60) ≡ q → (b == 62) ≡ r → shown_behind 0 (escaped_byte b ++ rest) ≡ b ∷ shown_behind 0 rest
byte_shown b rest true q r e f g = subst (λ x. shown_behind 0 (escaped_byte x ++ rest) ≡ x ∷ shown_behind 0 rest) (sym (same_number b 38 e)) refl
byte_shown b rest false true r e f g = subst (λ x. shown_behind 0 (escaped_byte x ++ rest) ≡ x ∷ shown_behind 0 rest) (sym (same_number b 60 f)) refl
byte_shown b rest false false true e f g = subst (λ x. shown_behind 0 (escaped_byte x ++ rest) ≡ x ∷ shown_behind 0 rest) (sym (same_number b 62 g)) refl
byte_shown b rest false false false e f g =
    ap (λ l. shown_behind 0 (l ++ rest)) (plain_byte b e f g)
    ∙ ap (λ (s : Shown). s.byte ∷ shown_behind s.more rest) (plain_shown b rest e)

-- and so are all
pub shown_back : (bytes : List ℕ) → unescaped (escaped bytes) ≡ bytes
shown_back [] = refl
shown_back (b ∷ bs) = byte_shown b (escaped bs) (b == 38) (b == 60) (b == 62) refl refl refl ∙ ap (λ l. b ∷ l) (shown_back bs)

-- an escaped byte has none that begins or ends a mark
byte_without : (b : ℕ) (rest : List ℕ) (p q r : Bool) → (b == 38) ≡ p → (b == 60) ≡ q → (b == 62) ≡ r → Each is_no_mark rest → Each is_no_mark (escaped_byte b ++ rest)
byte_without b rest true q r e f g h = subst (λ x. Each is_no_mark (escaped_byte x ++ rest)) (sym (same_number b 38 e)) (refl, (refl, (refl, (refl, (refl, h)))))
byte_without b rest false true r e f g h = subst (λ x. Each is_no_mark (escaped_byte x ++ rest)) (sym (same_number b 60 f)) (refl, (refl, (refl, (refl, h))))
byte_without b rest false false true e f g h = subst (λ x. Each is_no_mark (escaped_byte x ++ rest)) (sym (same_number b 62 g)) (refl, (refl, (refl, (refl, h))))
byte_without b rest false false false e f g h = subst (λ l. Each is_no_mark (l ++ rest)) (sym (plain_byte b e f g)) (neither (b == 60) (b == 62) f g, h)

-- and neither have all
pub without_marks : (bytes : List ℕ) → Each is_no_mark (escaped bytes)
without_marks [] = tt
without_marks (b ∷ bs) = byte_without b (escaped bs) (b == 38) (b == 60) (b == 62) refl refl refl (without_marks bs)
