-- Places, and their words.
use Rattle.std.proofs.Common.{◌≡◌, ◌≢◌, ◌∙◌, sym, ap, refl, subst, ℕ, zero, suc, ◌<◌, ◌^◌, ◌&&◌, Bool, true, false, List, [], ◌∷◌, ◌++◌, Option, Some, None, is_some, length, nat_eq, slice_get, option_map, arith}
use Rattle.std.specs.Prelude.{IfSome, codes, nat_lt}
use Rattle.std.specs.Option.{option_and_then, option_map_or}
use Rattle.std.specs.Cmp.Lexicographic.{pointwise}
use Rattle.std.proofs.lemmas.Bool.Decides.{nat_tests}
use Rattle.std.proofs.lemmas.Option.{same_Some, slice_get_within}
use Rattle.sml_text.specs.Decimal.{decimal_text}
use Rattle.sml_text.specs.Tokens.{Each}
use Rattle.sml_tree.specs.Word.{is_name_word, upper}
use Rattle.sml_domain.specs.Domain.{Domain, Object}
use Rattle.sml_domain.specs.Lookups.{class_number, has_state, is_state_of, object_named, state_named}
use Rattle.sml_domain.specs.Sound.{IsObject, IsSound}
use Rattle.sml_domain.proofs.Domains.{object_has_name, state_has_name, state_is_within}
use Rattle.smi_journal.specs.CallText.{name_or_nothing, object_name_text, state_name_text}
use Rattle.smi_journal.specs.HasText.{HasNames, IsNameText, is_state_number}
use Rattle.smi_live_once.proofs.Decimals.{is_same_text, not_same, one_number}
use Rattle.smi_carried.specs.declared.carried.CarriedPlace.{CarriedPlace}
use Rattle.smi_carried.specs.Pieces.{is_other_byte}
use Rattle.smi_carried.specs.Places.{IsPlaceOf, PlaceIsHeld, PlaceIsRead, place_object_word, place_state_word, place_version}
use Rattle.smi_carried.specs.Suits.{place_suits}
use Rattle.smi_carried.proofs.Cuts.{no_cut, number_bytes, one_cut}
use Rattle.smi_carried.proofs.Names.{name_bytes, named_object, no_dash, object_name, one_object_name, some_name}

-- ---- names

-- what is no word is no name
pub no_word : (w : List ℕ) → is_name_word w ≡ false → IsNameText w → ⊥
no_word w h n = let f : ◌≡◌ {A = Bool} true false = sym n.word ∙ h in cc f

-- nor is what another name is made of
pub no_upper : (name w : List ℕ) → pointwise nat_eq name w ≡ false → name ≡ upper w → IsNameText w → ⊥
no_upper name w h is n = not_same name w h (is ∙ n.upper_case)

-- whether bytes are a name as it is written
pub ruleset name_tests = (no_word, no_upper, is_same_text)

-- the object of a state is one of the domain
pub object_of_state : (d : Domain) (o s : ℕ) → is_state_of d o s ≡ true → IsObject d o
object_of_state d o s h = by (slice_get d.objects o) refl h
  where
    by : (x : Option Object) → slice_get d.objects o ≡ x
        → option_map_or (has_state s) (option_and_then (slice_get d.classes) (option_map class_number x)) false ≡ true → IsObject d o
    by None e h = absurd (cc h)
    by (Some x) e h = slice_get_within d.objects o x e

there : (xs : List (List ℕ)) (k : ℕ) → k < length xs → is_some (slice_get xs k) ≡ true
there [] k lt = absurd (omega (arith, lt))
there (x ∷ xs) zero lt = refl
there (x ∷ xs) (suc k) lt = there xs k (omega (arith, lt))

-- words that are neither of no place nor of one are of none
pub place_neither : (d : Domain) (one two : List ℕ) (number : ℕ) → (one ≡ codes "-" → two ≡ codes "-" → number ≡ 0 → ⊥)
    → ((p : CarriedPlace) → IsPlaceOf d one two number (Some p) → ⊥) → (p : Option CarriedPlace) → IsPlaceOf d one two number p → ⊥
place_neither d one two number none some None is = none is.object is.state is.version
place_neither d one two number none some (Some p) is = some p is

module _ (d : Domain) (sound : IsSound d) where
  -- the object that was found has the name
  pub object_found : (o : ℕ) (name w : List ℕ) → Some o ≡ object_named d name → name ≡ w → object_name_text d o ≡ w
  object_found o name w is e = ap name_or_nothing ((object_has_name d o name sound).1 (sym is)) ∙ e

  -- so has the state
  pub state_found : (s : ℕ) (name w : List ℕ) → Some s ≡ state_named d name → name ≡ w → state_name_text d s ≡ w
  state_found s name w is e = ap name_or_nothing ((state_has_name d s name sound).1 (sym is)) ∙ e

  module _ (names : HasNames d) where
    pub object_missing : (name w : List ℕ) → None ≡ object_named d name → name ≡ w → (o : ℕ) → o < length d.objects → object_name_text d o ≢ w
    object_missing name w none e o lt is =
        let f : ◌≡◌ {A = Option ℕ} None (Some o) = none ∙ ap (object_named d) (e ∙ sym is) ∙ named_object d sound names o lt in cc f

    pub object_unnamed : (w : List ℕ) → (IsNameText w → ⊥) → (o : ℕ) → o < length d.objects → object_name_text d o ≢ w
    object_unnamed w none o lt is = none (subst IsNameText is (object_name d sound names o lt))

    state_number : (o s : ℕ) → is_state_of d o s ≡ true → s < 2 ^ 64 → is_state_number d s ≡ true
    state_number o s h small =
        let a : nat_lt s (2 ^ 64) ≡ true = grind (arith, nat_tests, small) in
        ap (λ b. b && is_some (slice_get d.states s)) a ∙ there d.states s (state_is_within d o s sound h)

    pub state_name : (o s : ℕ) → is_state_of d o s ≡ true → s < 2 ^ 64 → IsNameText (state_name_text d s)
    state_name o s h small = names.states s (state_number o s h small)

    named_state : (o s : ℕ) → is_state_of d o s ≡ true → s < 2 ^ 64 → state_named d (state_name_text d s) ≡ Some s
    named_state o s h small = (state_has_name d s (state_name_text d s) sound).0 (some_name (slice_get d.states s) (state_name o s h small))

    one_state_name : (o s r : ℕ) → is_state_of d o s ≡ true → s < 2 ^ 64 → is_state_of d o r ≡ true → r < 2 ^ 64 → state_name_text d s ≡ state_name_text d r → s ≡ r
    one_state_name o s r hs ss hr sr e = same_Some s r (sym (named_state o s hs ss) ∙ ap (state_named d) e ∙ named_state o r hr sr)

    pub state_missing : (o : ℕ) (name w : List ℕ) → None ≡ state_named d name → name ≡ w → (s : ℕ) → is_state_of d o s ≡ true → s < 2 ^ 64 → state_name_text d s ≢ w
    state_missing o name w none e s h small is =
        let f : ◌≡◌ {A = Option ℕ} None (Some s) = none ∙ ap (state_named d) (e ∙ sym is) ∙ named_state o s h small in cc f

    pub state_unnamed : (o : ℕ) (w : List ℕ) → (IsNameText w → ⊥) → (s : ℕ) → is_state_of d o s ≡ true → s < 2 ^ 64 → state_name_text d s ≢ w
    state_unnamed o w none s h small is = none (subst IsNameText is (state_name o s h small))

    pub state_other : (o r : ℕ) (name w : List ℕ) → Some r ≡ state_named d name → name ≡ w → is_state_of d o r ≡ false
        → (s : ℕ) → is_state_of d o s ≡ true → s < 2 ^ 64 → state_name_text d s ≢ w
    state_other o r name w found e not s h small is =
        let same : r ≡ s = same_Some r s (found ∙ ap (state_named d) (e ∙ sym is) ∙ named_state o s h small) in
        let f : ◌≡◌ {A = Bool} true false = sym h ∙ ap (is_state_of d o) (sym same) ∙ not in cc f

    -- ---- places

    pub place_found : (o s : ℕ) (one two : List ℕ) (version : ℕ) → version < 2 ^ 64 → object_name_text d o ≡ one → is_state_of d o s ≡ true → s < 2 ^ 64 → state_name_text d s ≡ two
        → IsPlaceOf d one two version (Some (record { object = o; state = s; version = version }))
    place_found o s one two version small e is held f = record {
      suits = is;
      held = record { state = held; version = small };
      object = sym e;
      state = sym f;
      version = refl;
    }

    pub place_no_object : (one two : List ℕ) (version : ℕ) → ((o : ℕ) → o < length d.objects → object_name_text d o ≢ one)
        → (p : CarriedPlace) → IsPlaceOf d one two version (Some p) → ⊥
    place_no_object one two version none p is = none p.object (object_of_state d p.object p.state is.suits) (sym is.object)

    pub place_no_state : (o : ℕ) (one two : List ℕ) (version : ℕ) → o < length d.objects → object_name_text d o ≡ one
        → ((s : ℕ) → is_state_of d o s ≡ true → s < 2 ^ 64 → state_name_text d s ≢ two) → (p : CarriedPlace) → IsPlaceOf d one two version (Some p) → ⊥
    place_no_state o one two version lt e none p is =
        let same : p.object ≡ o = one_object_name d sound names p.object o (object_of_state d p.object p.state is.suits) lt (sym is.object ∙ sym e) in
        none p.state (subst (λ k. is_state_of d k p.state ≡ true) same is.suits) is.held.state (sym is.state)

    -- one place has these words
    pub one_place : (p q : Option CarriedPlace) → place_suits d p ≡ true → IfSome p PlaceIsHeld → place_suits d q ≡ true → IfSome q PlaceIsHeld
        → place_object_word d p ≡ place_object_word d q → place_state_word d p ≡ place_state_word d q → place_version p ≡ place_version q → p ≡ q
    one_place None None sp hp sq hq o s v = refl
    one_place None (Some q) sp hp sq hq o s v = absurd (no_dash (object_name_text d q.object) (object_name d sound names q.object (object_of_state d q.object q.state sq)) (sym o))
    one_place (Some p) None sp hp sq hq o s v = absurd (no_dash (object_name_text d p.object) (object_name d sound names p.object (object_of_state d p.object p.state sp)) o)
    one_place (Some p) (Some q) sp hp sq hq o s v =
        let objects : p.object ≡ q.object = one_object_name d sound names p.object q.object (object_of_state d p.object p.state sp) (object_of_state d q.object q.state sq) o in
        let states : p.state ≡ q.state
        = one_state_name q.object p.state q.state (subst (λ k. is_state_of d k p.state ≡ true) objects sp) hp.state sq hq.state s in
        ap Some (λ i. record { object = objects i; state = states i; version = v i })

    -- ---- words of places

    object_bytes : (p : Option CarriedPlace) → place_suits d p ≡ true → Each (is_other_byte 32) (place_object_word d p)
    object_bytes None h = (refl, tt)
    object_bytes (Some p) h = name_bytes (object_name_text d p.object) (object_name d sound names p.object (object_of_state d p.object p.state h))

    state_bytes : (p : Option CarriedPlace) → place_suits d p ≡ true → IfSome p PlaceIsHeld → Each (is_other_byte 32) (place_state_word d p)
    state_bytes None h held = (refl, tt)
    state_bytes (Some p) h held = name_bytes (state_name_text d p.state) (state_name p.object p.state h held.state)

    pub small_version : (p : Option CarriedPlace) → IfSome p PlaceIsHeld → place_version p < 2 ^ 64
    small_version None h = omega arith
    small_version (Some p) h = h.version

    pub no_object_word : (text : List ℕ) → Each (is_other_byte 32) text → (p : Option CarriedPlace) (more : List ℕ) → PlaceIsRead d text p more → ⊥
    no_object_word text none p more read = no_cut 32 text (place_object_word d p) (place_state_word d p ++ 32 ∷ (decimal_text (place_version p) ++ 32 ∷ more)) none read.says

    module _ (text one states : List ℕ) (is : text ≡ one ++ 32 ∷ states) (each : Each (is_other_byte 32) one) where
      after_object_word : (p : Option CarriedPlace) (more : List ℕ) → PlaceIsRead d text p more
          → (one ≡ place_object_word d p) × (states ≡ place_state_word d p ++ 32 ∷ (decimal_text (place_version p) ++ 32 ∷ more))
      after_object_word p more read = one_cut 32 one (place_object_word d p) states _ each (object_bytes p read.suits) (sym is ∙ read.says)

      pub no_state_word : Each (is_other_byte 32) states → (p : Option CarriedPlace) (more : List ℕ) → PlaceIsRead d text p more → ⊥
      no_state_word none p more read = no_cut 32 states (place_state_word d p) (decimal_text (place_version p) ++ 32 ∷ more) none (after_object_word p more read).1

      module _ (two versions : List ℕ) (is2 : states ≡ two ++ 32 ∷ versions) (each2 : Each (is_other_byte 32) two) where
        after_state_word : (p : Option CarriedPlace) (more : List ℕ) → PlaceIsRead d text p more
            → (two ≡ place_state_word d p) × (versions ≡ decimal_text (place_version p) ++ 32 ∷ more)
        after_state_word p more read =
            one_cut 32 two (place_state_word d p) versions (decimal_text (place_version p) ++ 32 ∷ more) each2 (state_bytes p read.suits read.held)
            (sym is2 ∙ (after_object_word p more read).1)

        pub no_version_word : ((n : ℕ) (more : List ℕ) → n < 2 ^ 64 → versions ≢ decimal_text n ++ 32 ∷ more)
            → (p : Option CarriedPlace) (more : List ℕ) → PlaceIsRead d text p more → ⊥
        no_version_word none p more read = none (place_version p) more (small_version p read.held) (after_state_word p more read).1

        module _ (number : ℕ) (rest : List ℕ) (is3 : versions ≡ decimal_text number ++ 32 ∷ rest) (small : number < 2 ^ 64) where
          -- what is read there is of these words
          pub place_words : (p : Option CarriedPlace) (more : List ℕ) → PlaceIsRead d text p more → IsPlaceOf d one two number p × (rest ≡ more)
          place_words p more read =
              let both = one_cut 32 (decimal_text number) (decimal_text (place_version p)) rest more (number_bytes 32 number refl small)
              (number_bytes 32 (place_version p) refl (small_version p read.held)) (sym is3 ∙ (after_state_word p more read).1) in (
                record {
                  suits = read.suits;
                  held = read.held;
                  object = (after_object_word p more read).0;
                  state = (after_state_word p more read).0;
                  version = one_number number (place_version p) small (small_version p read.held) both.0;
                },
                both.1,
              )

          pub no_place_words : ((p : Option CarriedPlace) → IsPlaceOf d one two number p → ⊥) → (p : Option CarriedPlace) (more : List ℕ) → PlaceIsRead d text p more → ⊥
          no_place_words none p more read = none p (place_words p more read).0

          pub place_read : (p : Option CarriedPlace) → IsPlaceOf d one two number p → PlaceIsRead d text p rest
          place_read p h = record {
            suits = h.suits;
            held = h.held;
            says = is ∙ ap (λ l. l ++ 32 ∷ states) h.object
                ∙ ap (λ l. place_object_word d p ++ 32 ∷ l) (is2 ∙ ap (λ l. l ++ 32 ∷ versions) h.state
                ∙ ap (λ l. place_state_word d p ++ 32 ∷ l) (is3 ∙ ap (λ k. decimal_text k ++ 32 ∷ rest) h.version));
          }

    -- one place is in front of a text
    pub one_place_read : (text : List ℕ) (p q : Option CarriedPlace) (m n : List ℕ) → PlaceIsRead d text p m → PlaceIsRead d text q n → (p ≡ q) × (m ≡ n)
    one_place_read text p q m n hp hq =
        let w = place_words text (place_object_word d p) (place_state_word d p ++ 32 ∷ (decimal_text (place_version p) ++ 32 ∷ m)) hp.says (object_bytes p hp.suits)
        (place_state_word d p) (decimal_text (place_version p) ++ 32 ∷ m) refl (state_bytes p hp.suits hp.held)
        (place_version p) m refl (small_version p hp.held) q n hq in
        (one_place p q hp.suits hp.held hq.suits hq.held w.0.object w.0.state w.0.version, w.1)
