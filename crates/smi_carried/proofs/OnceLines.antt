-- The lines of last requests.
use Rattle.std.proofs.Common.{◌≡◌, ◌≢◌, ◌∙◌, sym, ap, refl, subst, inl, inr, ℕ, ◌<◌, ◌^◌, ◌&&◌, ◌||◌, Bool, true, false, List, [], ◌∷◌, ◌++◌, Option, Some, None, append_assoc, drop, length, nat_eq, take, take-append-drop, arith}
use Rattle.std.specs.Prelude.{◌⊎◌, codes, nat_le}
use Rattle.std.specs.List.{list_all, starts_with}
use Rattle.std.proofs.lemmas.Bool.Decides.{nat_tests}
use Rattle.std.proofs.lemmas.Fmt.{decimal_digit}
use Rattle.std.proofs.lemmas.List.{append_cancel_left}
use Rattle.sml_text.specs.Decimal.{decimal_text}
use Rattle.sml_text.specs.declared.limits.TheConstants.{LONGEST_NAME}
use Rattle.sml_text.specs.Tokens.{Each}
use Rattle.sml_domain.specs.Domain.{Domain}
use Rattle.sml_domain.specs.Sound.{IsSound}
use Rattle.smi_journal.specs.CallText.{object_name_text, state_name_text}
use Rattle.smi_journal.specs.HasText.{HasNames}
use Rattle.smi_live_once.specs.Forms.{is_once_byte, is_once_name}
use Rattle.smi_live_once.specs.Tables.{same_bytes}
use Rattle.smi_live_once.proofs.Decimals.{is_same_text, one_number}
use Rattle.smi_carried.specs.declared.carried.CarriedPlace.{CarriedPlace}
use Rattle.smi_carried.specs.Carried.{OnceView}
use Rattle.smi_carried.specs.CarriedText.{carried_once_line, carried_place_text}
use Rattle.smi_carried.specs.Onces.{NoOnceIsRead, OnceIsRead, once_of_parts}
use Rattle.smi_carried.specs.Pieces.{is_other_byte}
use Rattle.smi_carried.specs.Places.{PlaceIsRead, place_object_word, place_state_word, place_version}
use Rattle.smi_carried.specs.Suits.{is_refusal, is_what, is_what_letter, once_suits, place_suits}
use Rattle.smi_carried.proofs.Cuts.{each_append, each_more, no_cut, number_bytes, one_cut}
use Rattle.smi_carried.proofs.Names.{both_true, each_of_all}
use Rattle.smi_carried.proofs.Places.{one_place_read}

-- ---- names and what became of requests

no_blank_once : (c : ℕ) → is_once_byte c ≡ true → is_other_byte 32 c ≡ true
no_blank_once c h = grind (arith, nat_tests)

-- no byte of a name is a blank
once_bytes : (name : List ℕ) → is_once_name name ≡ true → Each (is_other_byte 32) name
once_bytes name h =
    let long = (both_true (nat_le 1 (length name)) (nat_le (length name) LONGEST_NAME && list_all is_once_byte name) h).1 in
    let all = (both_true (nat_le (length name) LONGEST_NAME) (list_all is_once_byte name) long).1 in
    each_more is_once_byte (is_other_byte 32) name no_blank_once (each_of_all is_once_byte name all)

pub no_name_cut : (text : List ℕ) → Each (is_other_byte 32) text → (name more : List ℕ) → is_once_name name ≡ true → text ≢ name ++ 32 ∷ more
no_name_cut text none name more h = no_cut 32 text name more none

pub no_name : (text word rest : List ℕ) → text ≡ word ++ 32 ∷ rest → Each (is_other_byte 32) word → is_once_name word ≡ false
    → (name more : List ℕ) → is_once_name name ≡ true → text ≢ name ++ 32 ∷ more
no_name text word rest is each not name more h e =
    let same = (one_cut 32 word name rest more each (once_bytes name h) (sym is ∙ e)).0 in
    let f : ◌≡◌ {A = Bool} true false = sym h ∙ ap is_once_name (sym same) ∙ not in cc f

either_true : (a b : Bool) → (a || b) ≡ true → (a ≡ true) ⊎ (b ≡ true)
either_true true b h = inl refl
either_true false b h = inr h

no_feed_letter : (c : ℕ) → is_what_letter c ≡ true → is_other_byte 10 c ≡ true
no_feed_letter c h = grind (arith, nat_tests)

-- a word without a line feed
word_bytes : (word what : List ℕ) → list_all (is_other_byte 10) word ≡ true → same_bytes what word ≡ true → Each (is_other_byte 10) what
word_bytes word what all h = subst (Each (is_other_byte 10)) (sym (is_same_text what word h)) (each_of_all (is_other_byte 10) word all)

refusal_bytes : (what : List ℕ) → is_refusal what ≡ true → Each (is_other_byte 10) what
refusal_bytes what h =
    let front = both_true (starts_with nat_eq what (codes "refused ")) (nat_le 9 (length what) && list_all is_what_letter (drop 8 what)) h in
    let letters = (both_true (nat_le 9 (length what)) (list_all is_what_letter (drop 8 what)) front.1).1 in
    let is : codes "refused " ≡ take 8 what = is_same_text (codes "refused ") (take 8 what) front.0 in
    subst (Each (is_other_byte 10)) (ap (λ l. l ++ drop 8 what) is ∙ take-append-drop 8 what)
    (each_append (is_other_byte 10) (codes "refused ") (drop 8 what) (each_of_all (is_other_byte 10) (codes "refused ") refl)
    (each_more is_what_letter (is_other_byte 10) (drop 8 what) no_feed_letter (each_of_all is_what_letter (drop 8 what) letters)))

-- no byte of what became of a request is a line feed
pub what_bytes : (what : List ℕ) → is_what what ≡ true → Each (is_other_byte 10) what
what_bytes what h = one (either_true (same_bytes what (codes "ended")) _ h)
  where
    three : (same_bytes what (codes "killed") ≡ true) ⊎ (is_refusal what ≡ true) → Each (is_other_byte 10) what
    three (inl e) = word_bytes (codes "killed") what refl e
    three (inr e) = refusal_bytes what e

    two : (same_bytes what (codes "skipped") ≡ true) ⊎ ((same_bytes what (codes "killed") || is_refusal what) ≡ true) → Each (is_other_byte 10) what
    two (inl e) = word_bytes (codes "skipped") what refl e
    two (inr e) = three (either_true (same_bytes what (codes "killed")) (is_refusal what) e)

    one : (same_bytes what (codes "ended") ≡ true) ⊎ ((same_bytes what (codes "skipped") || (same_bytes what (codes "killed") || is_refusal what)) ≡ true)
        → Each (is_other_byte 10) what
    one (inl e) = word_bytes (codes "ended") what refl e
    one (inr e) = two (either_true (same_bytes what (codes "skipped")) (same_bytes what (codes "killed") || is_refusal what) e)

pub no_what_cut : (text : List ℕ) → Each (is_other_byte 10) text → (what more : List ℕ) → is_what what ≡ true → text ≢ what ++ 10 ∷ more
no_what_cut text none what more h = no_cut 10 text what more none

pub no_what : (text word rest : List ℕ) → text ≡ word ++ 10 ∷ rest → Each (is_other_byte 10) word → is_what word ≡ false
    → (what more : List ℕ) → is_what what ≡ true → text ≢ what ++ 10 ∷ more
no_what text word rest is each not what more h e =
    let same = (one_cut 10 word what rest more each (what_bytes what h) (sym is ∙ e)).0 in
    let f : ◌≡◌ {A = Bool} true false = sym h ∙ ap is_what (sym same) ∙ not in cc f

-- ---- the line

zero_text : decimal_text 0 ≡ 48 ∷ []
zero_text = decimal_digit 0 (omega arith)

-- a place and what follows it
abbrev place_tail : Domain → Option CarriedPlace → List ℕ → List ℕ
place_tail d p more = place_object_word d p ++ 32 ∷ (place_state_word d p ++ 32 ∷ (decimal_text (place_version p) ++ 32 ∷ more))

-- the line behind its keyword, and what follows it
abbrev once_tail : Domain → OnceView → List ℕ → List ℕ
once_tail d x more = x.name ++ 32 ∷ (decimal_text x.number ++ 32 ∷ place_tail d x.place (x.what ++ 10 ∷ more))

place_says : (d : Domain) (p : Option CarriedPlace) (more : List ℕ) → carried_place_text d p ++ 32 ∷ more ≡ 32 ∷ place_tail d p more
place_says d None more = ap (λ w. 32 ∷ 45 ∷ 32 ∷ 45 ∷ 32 ∷ (w ++ 32 ∷ more)) (sym zero_text)
place_says d (Some p) more =
    let object = object_name_text d p.object in
    let state = state_name_text d p.state in
    let version = decimal_text p.version in
    ap (λ l. 32 ∷ l) (append_assoc object (32 ∷ (state ++ 32 ∷ version)) (32 ∷ more)
    ∙ ap (λ l. object ++ 32 ∷ l) (append_assoc state (32 ∷ version) (32 ∷ more)))

once_says : (d : Domain) (x : OnceView) (more : List ℕ) → carried_once_line d x ++ more ≡ codes "! once " ++ once_tail d x more
once_says d x more =
    let number = decimal_text x.number in
    let place = carried_place_text d x.place in
    let end = 32 ∷ (x.what ++ 10 ∷ []) in
    ap (λ l. codes "! once " ++ l) (append_assoc x.name (32 ∷ (number ++ (place ++ end))) more
    ∙ ap (λ l. x.name ++ 32 ∷ l) (append_assoc number (place ++ end) more
    ∙ ap (λ l. number ++ l) (append_assoc place end more
    ∙ ap (λ l. place ++ 32 ∷ l) (append_assoc x.what (10 ∷ []) more)
    ∙ place_says d x.place (x.what ++ 10 ∷ more))))

module _ (d : Domain) where
  named : (x : OnceView) → once_suits d x ≡ true → is_once_name x.name ≡ true
  named x h = (both_true (is_once_name x.name) (place_suits d x.place && is_what x.what) h).0

  placed : (x : OnceView) → once_suits d x ≡ true → (place_suits d x.place ≡ true) × (is_what x.what ≡ true)
  placed x h = both_true (place_suits d x.place) (is_what x.what) (both_true (is_once_name x.name) (place_suits d x.place && is_what x.what) h).1

  -- whose name, place and end suit, suits
  all_suits : (name : List ℕ) (number : ℕ) (p : Option CarriedPlace) (what : List ℕ) → is_once_name name ≡ true → place_suits d p ≡ true → is_what what ≡ true
      → once_suits d (once_of_parts name number p what) ≡ true
  all_suits name number p what n s w = ap (λ b. b && (place_suits d p && is_what what)) n ∙ ap (λ b. b && is_what what) s ∙ w

  pub no_once_front : (text : List ℕ) → ((more : List ℕ) → text ≢ codes "! once " ++ more) → NoOnceIsRead d text
  no_once_front text none x more read = none (once_tail d x more) (read.says ∙ once_says d x more)

  module _ (sound : IsSound d) (names : HasNames d) (text names_on : List ℕ) (is : text ≡ codes "! once " ++ names_on) where
    behind_front : (x : OnceView) (more : List ℕ) → OnceIsRead d text x more → names_on ≡ once_tail d x more
    behind_front x more read = append_cancel_left (codes "! once ") names_on (once_tail d x more) (sym is ∙ read.says ∙ once_says d x more)

    pub no_once_name : ((name more : List ℕ) → is_once_name name ≡ true → names_on ≢ name ++ 32 ∷ more) → NoOnceIsRead d text
    no_once_name none x more read = none x.name _ (named x read.suits) (behind_front x more read)

    module _ (name numbers_on : List ℕ) (name_is : is_once_name name ≡ true) (is1 : names_on ≡ name ++ 32 ∷ numbers_on) where
      behind_name : (x : OnceView) (more : List ℕ) → OnceIsRead d text x more
          → (name ≡ x.name) × (numbers_on ≡ decimal_text x.number ++ 32 ∷ place_tail d x.place (x.what ++ 10 ∷ more))
      behind_name x more read =
          one_cut 32 name x.name numbers_on (decimal_text x.number ++ 32 ∷ place_tail d x.place (x.what ++ 10 ∷ more)) (once_bytes name name_is)
          (once_bytes x.name (named x read.suits)) (sym is1 ∙ behind_front x more read)

      pub no_once_number : ((n : ℕ) (more : List ℕ) → n < 2 ^ 64 → numbers_on ≢ decimal_text n ++ 32 ∷ more) → NoOnceIsRead d text
      no_once_number none x more read = none x.number _ read.held.number (behind_name x more read).1

      module _ (number : ℕ) (places_on : List ℕ) (small : number < 2 ^ 64) (is2 : numbers_on ≡ decimal_text number ++ 32 ∷ places_on) where
        behind_number : (x : OnceView) (more : List ℕ) → OnceIsRead d text x more → (number ≡ x.number) × (places_on ≡ place_tail d x.place (x.what ++ 10 ∷ more))
        behind_number x more read =
            let both = one_cut 32 (decimal_text number) (decimal_text x.number) places_on (place_tail d x.place (x.what ++ 10 ∷ more)) (number_bytes 32 number refl small)
            (number_bytes 32 x.number refl read.held.number) (sym is2 ∙ (behind_name x more read).1) in
            (one_number number x.number small read.held.number both.0, both.1)

        place_behind : (x : OnceView) (more : List ℕ) → OnceIsRead d text x more → PlaceIsRead d places_on x.place (x.what ++ 10 ∷ more)
        place_behind x more read = record { suits = (placed x read.suits).0; held = read.held.place; says = (behind_number x more read).1 }

        pub no_once_place : ((p : Option CarriedPlace) (more : List ℕ) → PlaceIsRead d places_on p more → ⊥) → NoOnceIsRead d text
        no_once_place none x more read = none x.place _ (place_behind x more read)

        module _ (place : Option CarriedPlace) (whats_on : List ℕ) (is3 : PlaceIsRead d places_on place whats_on) where
          behind_place : (x : OnceView) (more : List ℕ) → OnceIsRead d text x more → (place ≡ x.place) × (whats_on ≡ x.what ++ 10 ∷ more)
          behind_place x more read = one_place_read d sound names places_on place x.place whats_on (x.what ++ 10 ∷ more) is3 (place_behind x more read)

          pub no_once_what : ((what more : List ℕ) → is_what what ≡ true → whats_on ≢ what ++ 10 ∷ more) → NoOnceIsRead d text
          no_once_what none x more read = none x.what more (placed x read.suits).1 (behind_place x more read).1

          module _ (what rest : List ℕ) (what_is : is_what what ≡ true) (is4 : whats_on ≡ what ++ 10 ∷ rest) where
            behind_what : (x : OnceView) (more : List ℕ) → OnceIsRead d text x more → (what ≡ x.what) × (rest ≡ more)
            behind_what x more read = one_cut 10 what x.what rest more (what_bytes what what_is) (what_bytes x.what (placed x read.suits).1) (sym is4 ∙ (behind_place x more read).1)

            pub once_read : OnceIsRead d text (once_of_parts name number place what) rest
            once_read = record {
              suits = all_suits name number place what name_is is3.suits what_is;
              held = record { number = small; place = is3.held };
              says = is ∙ ap (λ l. codes "! once " ++ l) (is1 ∙ ap (λ l. name ++ 32 ∷ l) (is2 ∙ ap (λ l. decimal_text number ++ 32 ∷ l)
                  (is3.says ∙ ap (place_tail d place) is4))) ∙ sym (once_says d (once_of_parts name number place what) rest);
            }

            same_once : (x : OnceView) (more : List ℕ) → OnceIsRead d text x more → (once_of_parts name number place what ≡ x) × (rest ≡ more)
            same_once x more read = (
              λ i. record {
                name = (behind_name x more read).0 i;
                number = (behind_number x more read).0 i;
                place = (behind_place x more read).0 i;
                what = (behind_what x more read).0 i;
              },
              (behind_what x more read).1,
            )

-- one line is in front of a text
pub one_once : (d : Domain) (sound : IsSound d) (names : HasNames d) (text : List ℕ) (x y : OnceView) (t u : List ℕ) → OnceIsRead d text x t → OnceIsRead d text y u → (x ≡ y) × (t ≡ u)
one_once d sound names text x y t u hx hy =
    same_once d sound names text (once_tail d x t) (hx.says ∙ once_says d x t) x.name _ (named d x hx.suits) refl x.number _ hx.held.number refl
    x.place (x.what ++ 10 ∷ t) (record { suits = (placed d x hx.suits).0; held = hx.held.place; says = refl })
    x.what t (placed d x hx.suits).1 refl y u hy
