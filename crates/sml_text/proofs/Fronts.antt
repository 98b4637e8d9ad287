-- What is read at the front of a text is what is there, and nothing else is there.
use Rattle.std.proofs.Common.{◌≡◌, ◌≤◌, ℕ, pos, zero, suc, ◌+◌, ◌-◌, ◌^◌, List, [], ◌∷◌, ◌++◌, refl, ap, sym, ◌∙◌, subst, Option, Some, None, true, false, Bool, arith, length, take, drop, ◌==◌, ◌&&◌, append_assoc, take-append-drop, length-take, length-append}
use Rattle.std.specs.Prelude.{nat_le, nat_lt, if◌then◌else◌}
use Rattle.std.proofs.lemmas.Bool.Decides.{nat_tests}
use Rattle.sml_text.specs.declared.source.Source.{Source}
use Rattle.sml_text.specs.declared.source.Source.TheVariants.{Domain, Line}
use Rattle.sml_text.specs.declared.source.Sign.{Sign as SignKind}
use Rattle.sml_text.specs.declared.source.Sign.TheVariants.{Colon, Comma, Equals, OpenBracket, CloseBracket, OpenBrace, CloseBrace, Slash}
use Rattle.sml_text.specs.declared.front.Front.{Front}
use Rattle.sml_text.specs.declared.front.Front.TheVariants.{End, Skip, Word as AWord, Int as AnInt, Str as AStr, Sign as ASign, Session as ASession, Bad}
use Rattle.sml_text.specs.Bytes.{is_blank, is_letter, is_digit, is_word_byte, is_string_byte, no_line_feed, folded, sign_byte}
use Rattle.sml_text.specs.Tokens.{Each, Over, Lexeme, Word, Int, Str, Sign, Session, LexemeStands, blank, comment, word, int, string, sign, session, digits_value, int_value, minus_bytes, IsLong, negated}
use Rattle.sml_text.specs.Front.{StandsFirst, NoneStands, IsFront}
use Rattle.sml_text.specs.Scan.{span, passes_first, is_quote, word_front, is_long, minus_size, int_front, string_front, session_front, sign_front, front}
use Rattle.sml_text.specs.Stream.{Thing, thing_of, first_thing}
use Rattle.sml_text.proofs.Spans.{Cut, cut, span_cut, take_seam, drop_seam}
use Rattle.sml_text.specs.declared.limits.TheConstants.{LONGEST_NAME, LONGEST_STRING}

-- no byte passes two of the tests
letter_alone : (c : ℕ) → is_letter c ≡ true → (is_blank c ≡ false) × ((c == 33) ≡ false)
letter_alone c h = (grind (arith, nat_tests), grind (arith, nat_tests))

digit_alone : (c : ℕ) → is_digit c ≡ true → (is_blank c ≡ false) × ((c == 33) ≡ false) × (is_letter c ≡ false)
digit_alone c h = (grind (arith, nat_tests), grind (arith, nat_tests), grind (arith, nat_tests))

-- a digit is a byte of a word
digit_word : (c : ℕ) → is_word_byte c ≡ false → is_digit c ≡ false
digit_word c h = grind (arith, nat_tests)

over_digit : (rest : List ℕ) → Over is_word_byte rest → Over is_digit rest
over_digit [] h = tt
over_digit (c ∷ rest) h = digit_word c h

over_first : (p : ℕ → Bool) (rest : List ℕ) → Over p rest → passes_first p rest ≡ false
over_first p [] h = refl
over_first p (c ∷ rest) h = h

first_over : (p : ℕ → Bool) (rest : List ℕ) → passes_first p rest ≡ false → Over p rest
first_over p [] h = tt
first_over p (c ∷ rest) h = h

-- the range of 64 bits, as it is tested
long_tested : (minus : Bool) (digits : List ℕ) → IsLong (int_value minus digits) → is_long minus (digits_value digits) ≡ true
long_tested true digits h = go (digits_value digits) h
  where
    go : (n : ℕ) → IsLong (negated n) → nat_le n (2 ^ 63) ≡ true
    go zero h = refl
    go (suc n) h = grind (arith, nat_tests)
long_tested false digits h = go (digits_value digits) h
  where
    go : (n : ℕ) → IsLong (pos n) → nat_lt n (2 ^ 63) ≡ true
    go n h = grind (arith, nat_tests)

tested_long : (minus : Bool) (digits : List ℕ) → is_long minus (digits_value digits) ≡ true → IsLong (int_value minus digits)
tested_long true digits h = go (digits_value digits) h
  where
    go : (n : ℕ) → nat_le n (2 ^ 63) ≡ true → IsLong (negated n)
    go zero h = (omega arith, omega arith)
    go (suc n) h = (grind (arith, nat_tests), grind (arith, nat_tests))
tested_long false digits h = go (digits_value digits) h
  where
    go : (n : ℕ) → nat_lt n (2 ^ 63) ≡ true → IsLong (pos n)
    go n h = (grind (arith, nat_tests), grind (arith, nat_tests))

-- the first thing is so long, and it is this
abbrev thing : ℕ → Option Lexeme → Option Thing
thing n what = Some (record { size = n; what = what })

thing_long : (n m : ℕ) (what : Option Lexeme) → n ≡ m → thing n what ≡ thing m what
thing_long n m what e = ap (λ k. thing k what) e

-- an int from the number of its digits, its digits, and whether a byte of a word follows
abbrev int_of : Bool → ℕ → List ℕ → Bool → Front
int_of minus n digits more =
    if n == 0 then Bad else
    if more then Bad else
    if is_long minus (digits_value digits) then AnInt (int_value minus digits) (n + minus_size minus) else Bad

-- the digits that are in front are read as an int
int_read : (minus : Bool) (c : ℕ) (digits rest : List ℕ) → Each is_digit (c ∷ digits) → Over is_word_byte rest → IsLong (int_value minus (c ∷ digits))
    → int_front minus (c ∷ digits ++ rest) ≡ AnInt (int_value minus (c ∷ digits)) (length (c ∷ digits) + minus_size minus)
int_read minus c digits rest each over long =
    let text : List ℕ = c ∷ digits ++ rest in
    let n : span is_digit text ≡ length (c ∷ digits) = span_cut is_digit (c ∷ digits) rest each (over_digit rest over) in
    let some : (length (c ∷ digits) == 0) ≡ false = grind (arith, nat_tests) in
    let front : take (span is_digit text) text ≡ c ∷ digits = take_seam (c ∷ digits) rest _ (sym n) in
    let back : drop (span is_digit text) text ≡ rest = drop_seam (c ∷ digits) rest _ (sym n) in
    ap (λ d. int_of minus (span is_digit text) d (passes_first is_word_byte (drop (span is_digit text) text))) front
    ∙ ap (λ b. int_of minus (span is_digit text) (c ∷ digits) b) (ap (passes_first is_word_byte) back ∙ over_first is_word_byte rest over)
    ∙ ap (λ k. int_of minus k (c ∷ digits) false) n
    ∙ rw (some, long_tested minus (c ∷ digits) long) refl

fourth_test : (b c d e : Bool) (v w x y z : Front) → b ≡ false → c ≡ false → d ≡ false → e ≡ true
    → (if b then v else if c then w else if d then x else if e then y else z) ≡ y
fourth_test b c d e v w x y z h i j k = rw (h, i, j, k) refl

digit_first : (source : Source) (c : ℕ) (text : List ℕ) → is_digit c ≡ true → front source (c ∷ text) ≡ int_front false (c ∷ text)
digit_first source c text h =
    let a = digit_alone c h in
    fourth_test (is_blank c) (c == 33) (is_letter c) (is_digit c) _ _ _ _ _ a.0 a.1 a.2 h

-- what is in front is read
pub stands_first : (source : Source) (bytes rest : List ℕ) (what : Option Lexeme) → LexemeStands source bytes rest what → first_thing source (bytes ++ rest) ≡ Some (record { size = length bytes; what = what })
stands_first source bytes rest what (blank c _ h) = rw h refl
stands_first source bytes rest what (comment body _ each over) =
    let h = span_cut no_line_feed body rest each over in
    thing_long _ _ None (omega (arith, h))
stands_first source bytes rest what (word c body _ letter each over short) =
    let h = span_cut is_word_byte body rest each over in
    let a = letter_alone c letter in
    let e : span is_word_byte (body ++ rest) + 1 ≡ length (c ∷ body) = omega (arith, h) in
    let fits : nat_le (length (c ∷ body)) LONGEST_NAME ≡ true = grind (arith, nat_tests) in
    let front : take (length (c ∷ body)) (c ∷ body ++ rest) ≡ c ∷ body = take_seam (c ∷ body) rest _ refl in
    rw (a.0, a.1, letter, e, fits) (ap (λ w. thing (length (c ∷ body)) (Some (Word (folded w)))) front)
stands_first source bytes rest what (int true c digits _ digit each over long) =
    ap (λ x. thing_of x (45 ∷ c ∷ digits ++ rest)) (int_read true c digits rest (digit, each) over long)
    ∙ thing_long _ _ _ (omega arith)
stands_first source bytes rest what (int false c digits _ digit each over long) =
    ap (λ x. thing_of x (c ∷ digits ++ rest)) (digit_first source c (digits ++ rest) digit ∙ int_read false c digits rest (digit, each) over long)
    ∙ thing_long _ _ _ (omega arith)
stands_first source bytes rest what (string body _ each short) =
    let whole : (body ++ 34 ∷ []) ++ rest ≡ body ++ 34 ∷ rest = append_assoc body (34 ∷ []) rest in
    let n : span is_string_byte (body ++ 34 ∷ rest) ≡ length body = span_cut is_string_byte body (34 ∷ rest) each refl in
    let fits : nat_le (length body) LONGEST_STRING ≡ true = grind (arith, nat_tests) in
    let front : take (length body) (body ++ 34 ∷ rest) ≡ body = take_seam body (34 ∷ rest) _ refl in
    let back : drop (length body) (body ++ 34 ∷ rest) ≡ 34 ∷ rest = drop_seam body (34 ∷ rest) _ refl in
    ap (λ t. first_thing source (34 ∷ t)) whole ∙ rw (n, fits, back, front) (thing_long _ _ _ (omega (arith, length-append body (34 ∷ []))))
stands_first source bytes rest what (sign Colon _) = refl
stands_first source bytes rest what (sign Comma _) = refl
stands_first source bytes rest what (sign Equals _) = refl
stands_first source bytes rest what (sign OpenBracket _) = refl
stands_first source bytes rest what (sign CloseBracket _) = refl
stands_first source bytes rest what (sign OpenBrace _) = refl
stands_first source bytes rest what (sign CloseBrace _) = refl
stands_first source bytes rest what (sign Slash _) = refl
stands_first source bytes rest what (session k _ line least most) =
    let low : nat_le 49 (48 + k) ≡ true = grind (arith, nat_tests) in
    let high : nat_le (48 + k) 56 ≡ true = grind (arith, nat_tests) in
    let same : 48 + k - 48 ≡ k = omega arith in
    rw (line, low, high, same) refl

-- what is read is there, where it is something
abbrev Says : Source → List ℕ → Front → Type 0
Says source text End = text ≡ []
Says source text (Skip n) = StandsFirst source text n None
Says source text (AWord n) = StandsFirst source text n (Some (Word (folded (take n text))))
Says source text (AnInt value n) = StandsFirst source text n (Some (Int value))
Says source text (AStr n) = StandsFirst source text (n + 2) (Some (Str (take n (drop 1 text))))
Says source text (ASign s) = StandsFirst source text 1 (Some (Sign s))
Says source text (ASession k) = StandsFirst source text 2 (Some (Session k))
Says source text Bad = text ≡ [] → ⊥

by_test : (P : Front → Type 0) (b : Bool) (x y : Front) → (b ≡ true → P x) → (b ≡ false → P y) → P (if b then x else y)
by_test P true x y h g = h refl
by_test P false x y h g = g refl

some_byte : (c : ℕ) (text : List ℕ) → c ∷ text ≡ [] → ⊥
some_byte c text e = absurd (cc e)

same : (n c : ℕ) → (c == n) ≡ true → n ≡ c
same n c h = grind (arith, nat_tests)

-- bytes that are in front of a rest
stands_front : (source : Source) (text bytes rest : List ℕ) (n : ℕ) (what : Option Lexeme) → text ≡ bytes ++ rest → length bytes ≡ n → LexemeStands source bytes rest what → StandsFirst source text n what
stands_front source text bytes rest n what whole long stands = record {
  within = (let e = ap length whole in let l = length-append bytes rest in omega (arith, e, l, long));
  stands = subst (λ t. LexemeStands source (take n t) (drop n t) what) (sym whole)
      (subst (λ b. LexemeStands source b (drop n (bytes ++ rest)) what) (sym (take_seam bytes rest n long))
      (subst (λ r. LexemeStands source bytes r what) (sym (drop_seam bytes rest n long)) stands));
}

word_says : (source : Source) (c : ℕ) (text : List ℕ) → is_letter c ≡ true → Says source (c ∷ text) (word_front text)
word_says source c text letter = by_test (Says source (c ∷ text)) (nat_le (span is_word_byte text + 1) LONGEST_NAME) _ _ (λ fits. go (cut is_word_byte text) fits) (λ _. some_byte c text)
  where
    go : Cut is_word_byte text → nat_le (span is_word_byte text + 1) LONGEST_NAME ≡ true → StandsFirst source (c ∷ text) (span is_word_byte text + 1) (Some (Word (folded (take (span is_word_byte text + 1) (c ∷ text)))))
    go k fits =
        let l = k.long in
        let n : length (c ∷ k.body) ≡ span is_word_byte text + 1 = omega (arith, l) in
        let whole : c ∷ text ≡ (c ∷ k.body) ++ k.rest = ap (λ t. c ∷ t) k.whole in
        let front : c ∷ k.body ≡ take (span is_word_byte text + 1) (c ∷ text) = sym (ap (take (span is_word_byte text + 1)) whole ∙ take_seam (c ∷ k.body) k.rest _ n) in
        stands_front source (c ∷ text) (c ∷ k.body) k.rest _ _ whole n
        (subst (λ w. LexemeStands source (c ∷ k.body) k.rest (Some (Word (folded w)))) front (word c k.body k.rest letter k.each k.over (grind (arith, nat_tests))))

minus_length : (minus : Bool) → length (minus_bytes minus) ≡ minus_size minus
minus_length true = refl
minus_length false = refl

-- digits, at least one, behind a minus or none
digits_say : (source : Source) (minus : Bool) (body rest : List ℕ) → (length body == 0) ≡ false → Each is_digit body → Over is_word_byte rest → is_long minus (digits_value body) ≡ true
    → LexemeStands source (minus_bytes minus ++ body) rest (Some (Int (int_value minus body)))
digits_say source minus [] rest some each over long = absurd (cc some)
digits_say source minus (c ∷ digits) rest some each over long = int minus c digits rest each.0 each.1 over (tested_long minus (c ∷ digits) long)

int_says : (source : Source) (minus : Bool) (text : List ℕ) → (minus_bytes minus ++ text ≡ [] → ⊥) → Says source (minus_bytes minus ++ text) (int_front minus text)
int_says source minus text byte =
    by_test (Says source (minus_bytes minus ++ text)) (span is_digit text == 0) _ _ (λ none. byte) (λ some.
    by_test (Says source (minus_bytes minus ++ text)) (passes_first is_word_byte (drop (span is_digit text) text)) _ _ (λ more. byte) (λ over.
    by_test (Says source (minus_bytes minus ++ text)) (is_long minus (digits_value (take (span is_digit text) text))) _ _
    (λ long. go (cut is_digit text) some over long) (λ long. byte)))
  where
    go : Cut is_digit text → (span is_digit text == 0) ≡ false → passes_first is_word_byte (drop (span is_digit text) text) ≡ false → is_long minus (digits_value (take (span is_digit text) text)) ≡ true
        → StandsFirst source (minus_bytes minus ++ text) (span is_digit text + minus_size minus) (Some (Int (int_value minus (take (span is_digit text) text))))
    go k some over long =
        let l = k.long in
        let m = minus_length minus in
        let a = length-append (minus_bytes minus) k.body in
        let back : drop (span is_digit text) text ≡ k.rest = ap (drop (span is_digit text)) k.whole ∙ drop_seam k.body k.rest _ l in
        let front : take (span is_digit text) text ≡ k.body = ap (take (span is_digit text)) k.whole ∙ take_seam k.body k.rest _ l in
        stands_front source (minus_bytes minus ++ text) (minus_bytes minus ++ k.body) k.rest _ _
        (ap (λ t. minus_bytes minus ++ t) k.whole ∙ sym (append_assoc (minus_bytes minus) k.body k.rest))
        (omega (arith, a, m, l))
        (subst (λ d. LexemeStands source (minus_bytes minus ++ k.body) k.rest (Some (Int (int_value minus d)))) (sym front)
        (digits_say source minus k.body k.rest
        (subst (λ n. (n == 0) ≡ false) (sym l) some) k.each
        (first_over is_word_byte k.rest (subst (λ r. passes_first is_word_byte r ≡ false) back over))
        (subst (λ d. is_long minus (digits_value d) ≡ true) front long)))

-- bytes of a string up to a quote
closed_says : (source : Source) (text after : List ℕ) (n : ℕ) (k : Cut is_string_byte text) → length k.body ≡ n → n ≤ LONGEST_STRING → k.rest ≡ 34 ∷ after
    → StandsFirst source (34 ∷ text) (n + 2) (Some (Str (take n text)))
closed_says source text after n k l short closed =
    let whole : 34 ∷ text ≡ (34 ∷ (k.body ++ 34 ∷ [])) ++ after = ap (λ t. 34 ∷ t) (k.whole ∙ ap (λ r. k.body ++ r) closed ∙ sym (append_assoc k.body (34 ∷ []) after)) in
    let long : length (34 ∷ (k.body ++ 34 ∷ [])) ≡ n + 2 = omega (arith, length-append k.body (34 ∷ []), l) in
    let front : k.body ≡ take n text = sym (ap (take n) k.whole ∙ take_seam k.body k.rest n l) in
    stands_front source (34 ∷ text) (34 ∷ (k.body ++ 34 ∷ [])) after _ _ whole long
    (subst (λ b. LexemeStands source (34 ∷ (k.body ++ 34 ∷ [])) after (Some (Str b))) front (string k.body after k.each (omega (arith, l, short))))

string_says : (source : Source) (text : List ℕ) → Says source (34 ∷ text) (string_front text)
string_says source text =
    by_test (Says source (34 ∷ text)) (nat_le (span is_string_byte text) LONGEST_STRING && passes_first is_quote (drop (span is_string_byte text) text)) _ _
    (λ good. go (cut is_string_byte text) good) (λ _. some_byte 34 text)
  where
    first_quote : (rest : List ℕ) → passes_first is_quote rest ≡ true → (after : List ℕ) × (rest ≡ 34 ∷ after)
    first_quote [] h = absurd (cc h)
    first_quote (c ∷ rest) h = (rest, ap (λ x. x ∷ rest) (sym (same 34 c h)))

    go : Cut is_string_byte text → (nat_le (span is_string_byte text) LONGEST_STRING && passes_first is_quote (drop (span is_string_byte text) text)) ≡ true
        → StandsFirst source (34 ∷ text) (span is_string_byte text + 2) (Some (Str (take (span is_string_byte text) text)))
    go k good =
        let l = k.long in
        let short : span is_string_byte text ≤ LONGEST_STRING = grind (arith, nat_tests) in
        let quote : passes_first is_quote (drop (span is_string_byte text) text) ≡ true = grind (arith, nat_tests) in
        let back : drop (span is_string_byte text) text ≡ k.rest = ap (drop (span is_string_byte text)) k.whole ∙ drop_seam k.body k.rest _ l in
        let end = first_quote k.rest (subst (λ r. passes_first is_quote r ≡ true) back quote) in
        closed_says source text end.0 _ k l short end.1

session_says : (source : Source) (text : List ℕ) → Says source (64 ∷ text) (session_front source text)
session_says Domain text = some_byte 64 text
session_says Line [] = some_byte 64 []
session_says Line (c ∷ text) = by_test (Says Line (64 ∷ c ∷ text)) (nat_le 49 c && nat_le c 56) _ _ go (λ _. some_byte 64 (c ∷ text))
  where
    go : (nat_le 49 c && nat_le c 56) ≡ true → StandsFirst Line (64 ∷ c ∷ text) 2 (Some (Session (c - 48)))
    go h =
        let low : 49 ≤ c = grind (arith, nat_tests) in
        let high : c ≤ 56 = grind (arith, nat_tests) in
        record { within = omega arith; stands = subst (λ x. LexemeStands Line (64 ∷ x ∷ []) text (Some (Session (c - 48)))) (omega (arith, low)) (session (c - 48) text refl (omega (arith, low)) (omega (arith, high))) }

sign_says : (source : Source) (c : ℕ) (text : List ℕ) → Says source (c ∷ text) (sign_front c)
sign_says source c text =
    by_test (Says source (c ∷ text)) (c == 58) _ _ (λ h. go Colon (same _ c h)) (λ _.
    by_test (Says source (c ∷ text)) (c == 44) _ _ (λ h. go Comma (same _ c h)) (λ _.
    by_test (Says source (c ∷ text)) (c == 61) _ _ (λ h. go Equals (same _ c h)) (λ _.
    by_test (Says source (c ∷ text)) (c == 40) _ _ (λ h. go OpenBracket (same _ c h)) (λ _.
    by_test (Says source (c ∷ text)) (c == 41) _ _ (λ h. go CloseBracket (same _ c h)) (λ _.
    by_test (Says source (c ∷ text)) (c == 123) _ _ (λ h. go OpenBrace (same _ c h)) (λ _.
    by_test (Says source (c ∷ text)) (c == 125) _ _ (λ h. go CloseBrace (same _ c h)) (λ _.
    by_test (Says source (c ∷ text)) (c == 47) _ _ (λ h. go Slash (same _ c h)) (λ _.
    some_byte c text))))))))
  where
    go : (s : SignKind) → sign_byte s ≡ c → StandsFirst source (c ∷ text) 1 (Some (Sign s))
    go s e = record { within = omega arith; stands = subst (λ x. LexemeStands source (x ∷ []) text (Some (Sign s))) e (sign s text) }

comment_says : (source : Source) (text : List ℕ) → Cut no_line_feed text → StandsFirst source (33 ∷ text) (span no_line_feed text + 1) None
comment_says source text k =
    let l = k.long in
    stands_front source (33 ∷ text) (33 ∷ k.body) k.rest _ _ (ap (λ t. 33 ∷ t) k.whole) (omega (arith, l)) (comment k.body k.rest k.each k.over)

front_says : (source : Source) (text : List ℕ) → Says source text (front source text)
front_says source [] = refl
front_says source (c ∷ text) =
    by_test (Says source (c ∷ text)) (is_blank c) _ _ (λ h. record { within = omega arith; stands = blank c text h }) (λ _.
    by_test (Says source (c ∷ text)) (c == 33) _ _
    (λ h. subst (λ x. StandsFirst source (x ∷ text) (span no_line_feed text + 1) None) (same 33 c h) (comment_says source text (cut no_line_feed text))) (λ _.
    by_test (Says source (c ∷ text)) (is_letter c) _ _ (λ h. word_says source c text h) (λ _.
    by_test (Says source (c ∷ text)) (is_digit c) _ _ (λ h. int_says source false (c ∷ text) (some_byte c text)) (λ _.
    by_test (Says source (c ∷ text)) (c == 45) _ _
    (λ h. subst (λ x. Says source (x ∷ text) (int_front true text)) (same 45 c h) (int_says source true text (some_byte 45 text))) (λ _.
    by_test (Says source (c ∷ text)) (c == 34) _ _
    (λ h. subst (λ x. Says source (x ∷ text) (string_front text)) (same 34 c h) (string_says source text)) (λ _.
    by_test (Says source (c ∷ text)) (c == 64) _ _
    (λ h. subst (λ x. Says source (x ∷ text) (session_front source text)) (same 64 c h) (session_says source text)) (λ _.
    sign_says source c text)))))))

pub no_thing : (t : Thing) → None ≡ Some t → ⊥
no_thing t e = absurd (cc e)

-- what is read at the front is there, and where nothing is read nothing stands
pub front_is : (source : Source) (text : List ℕ) → IsFront source text (front source text)
front_is source text = go (front source text) refl (front_says source text)
  where
    go : (x : Front) → front source text ≡ x → Says source text x → IsFront source text x
    go End e s = s
    go (Skip n) e s = s
    go (AWord n) e s = s
    go (AnInt value n) e s = s
    go (AStr n) e s = s
    go (ASign k) e s = s
    go (ASession k) e s = s
    go Bad e s = (s, λ bytes rest what whole stands. no_thing _ (sym (ap (λ x. thing_of x text) e) ∙ ap (first_thing source) whole ∙ stands_first source bytes rest what stands))

-- a thing of a text stands at its front
abbrev pub IsThing : Source → List ℕ → Option Thing → Type 0
IsThing source text None = Unit {0}
IsThing source text (Some thing) = StandsFirst source text thing.size thing.what

pub front_thing : (source : Source) (text : List ℕ) (x : Front) → IsFront source text x → IsThing source text (thing_of x text)
front_thing source text End s = tt
front_thing source text (Skip n) s = s
front_thing source text (AWord n) s = s
front_thing source text (AnInt value n) s = s
front_thing source text (AStr n) s = s
front_thing source text (ASign k) s = s
front_thing source text (ASession k) s = s
front_thing source text Bad s = tt

-- what is at the front is the first thing
thing_first : (source : Source) (text : List ℕ) (n : ℕ) (what : Option Lexeme) → StandsFirst source text n what → thing n what ≡ first_thing source text
thing_first source text n what s =
    let w = s.within in let l = length-take n text in
    thing_long n (length (take n text)) what (omega (arith, w, l))
    ∙ sym (stands_first source (take n text) (drop n text) what s.stands) ∙ ap (first_thing source) (take-append-drop n text)

none_first : (source : Source) (text : List ℕ) → NoneStands source text → None ≡ first_thing source text
none_first source text none = go (first_thing source text) (front_thing source text (front source text) (front_is source text))
  where
    go : (t : Option Thing) → IsThing source text t → None ≡ t
    go None s = refl
    go (Some t) s = absurd (none (take t.size text) (drop t.size text) t.what (sym (take-append-drop t.size text)) s.stands)

pub front_first : (source : Source) (text : List ℕ) (x : Front) → IsFront source text x → thing_of x text ≡ first_thing source text
front_first source text End s = ap (first_thing source) (sym s)
front_first source text (Skip n) s = thing_first source text _ _ s
front_first source text (AWord n) s = thing_first source text _ _ s
front_first source text (AnInt value n) s = thing_first source text _ _ s
front_first source text (AStr n) s = thing_first source text _ _ s
front_first source text (ASign k) s = thing_first source text _ _ s
front_first source text (ASession k) s = thing_first source text _ _ s
front_first source text Bad s = none_first source text s.1
