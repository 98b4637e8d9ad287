-- Names of objects and states: of which bytes they are, and whose they are.
use Rattle.std.proofs.Common.{◌≡◌, ◌∙◌, ap, refl, sym, ℕ, zero, suc, ◌<◌, ◌^◌, ◌&&◌, Bool, true, false, List, [], ◌∷◌, Option, Some, None, is_some, length, slice_get, option_map, arith}
use Rattle.std.proofs.lemmas.Bool.Decides.{nat_tests}
use Rattle.std.proofs.lemmas.Option.{same_Some}
use Rattle.std.specs.Prelude.{nat_le, nat_lt}
use Rattle.std.specs.Char.{is_ascii_alphabetic}
use Rattle.std.specs.List.{list_all}
use Rattle.sml_text.specs.declared.limits.TheConstants.{LONGEST_NAME}
use Rattle.sml_text.specs.Tokens.{Each}
use Rattle.sml_tree.specs.Word.{is_name_byte, is_name_text}
use Rattle.sml_domain.specs.Domain.{Domain}
use Rattle.sml_domain.specs.Lookups.{name_of_object, object_named, state_named}
use Rattle.sml_domain.specs.Sound.{IsObject, IsSound}
use Rattle.sml_domain.proofs.Domains.{object_has_name, state_has_name, state_is_within}
use Rattle.smi_journal.specs.CallText.{name_or_nothing, object_name_text, state_name_text}
use Rattle.smi_journal.specs.HasText.{HasNames, IsNameText, is_object_number, is_state_number}
use Rattle.smi_outset_text.specs.Reading.{IsOwnState}

both_true : (a b : Bool) → (a && b) ≡ true → (a ≡ true) × (b ≡ true)
both_true true b h = (refl, h)
both_true false b h = absurd (cc h)

each_of_all : (p : ℕ → Bool) (w : List ℕ) → list_all p w ≡ true → Each p w
each_of_all p [] h = tt
each_of_all p (c ∷ w) h = let b = both_true (p c) (list_all p w) h in (b.0, each_of_all p w b.1)

letter_is_byte : (c : ℕ) → is_ascii_alphabetic c ≡ true → is_name_byte c ≡ true
letter_is_byte c h = grind (arith, nat_tests)

bytes_of_word : (w : List ℕ) → is_name_text w ≡ true → Each is_name_byte w
bytes_of_word [] h = tt
bytes_of_word (c ∷ w) h =
    let b = both_true (is_ascii_alphabetic c) (list_all is_name_byte w) h in (letter_is_byte c b.0, each_of_all is_name_byte w b.1)

-- the bytes of a name
pub name_bytes : (w : List ℕ) → IsNameText w → Each is_name_byte w
name_bytes w n = bytes_of_word w (both_true (is_name_text w) (nat_le (length w) LONGEST_NAME) n.word).0

-- where a name stands there is one
some_name : (x : Option (List ℕ)) → IsNameText (name_or_nothing x) → x ≡ Some (name_or_nothing x)
some_name None n = let f : false ≡ true = n.word in absurd (cc f)
some_name (Some w) n = refl

module _ (d : Domain) (sound : IsSound d) (names : HasNames d) where
  object_number : (o : ℕ) → IsObject d o → is_object_number d o ≡ true
  object_number o lt = grind (arith, nat_tests, lt)

  pub object_name : (o : ℕ) → IsObject d o → IsNameText (object_name_text d o)
  object_name o lt = names.objects o (object_number o lt)

  pub one_object_name : (o p : ℕ) → IsObject d o → IsObject d p → object_name_text d o ≡ object_name_text d p → o ≡ p
  one_object_name o p lo lp e =
      let first : object_named d (object_name_text d o) ≡ Some o
      = (object_has_name d o (object_name_text d o) sound).0 (some_name (option_map name_of_object (slice_get d.objects o)) (object_name o lo)) in
      let second : object_named d (object_name_text d p) ≡ Some p
      = (object_has_name d p (object_name_text d p) sound).0 (some_name (option_map name_of_object (slice_get d.objects p)) (object_name p lp)) in
      same_Some o p (sym first ∙ ap (object_named d) e ∙ second)

  state_number : (o s : ℕ) → IsOwnState d o s → is_state_number d s ≡ true
  state_number o s own = by (state_is_within d o s sound own.is) own.small
    where
      there : (xs : List (List ℕ)) (k : ℕ) → k < length xs → is_some (slice_get xs k) ≡ true
      there [] k lt = absurd (omega (arith, lt))
      there (x ∷ xs) zero lt = refl
      there (x ∷ xs) (suc k) lt = there xs k (omega (arith, lt))

      by : s < length d.states → s < 2 ^ 64 → is_state_number d s ≡ true
      by lt small =
          let a : nat_lt s (2 ^ 64) ≡ true = grind (arith, nat_tests, small) in
          ap (λ b. b && is_some (slice_get d.states s)) a ∙ there d.states s lt

  pub state_name : (o s : ℕ) → IsOwnState d o s → IsNameText (state_name_text d s)
  state_name o s own = names.states s (state_number o s own)

  pub one_state_name : (o s r : ℕ) → IsOwnState d o s → IsOwnState d o r → state_name_text d s ≡ state_name_text d r → s ≡ r
  one_state_name o s r hs hr e =
      let first : state_named d (state_name_text d s) ≡ Some s
      = (state_has_name d s (state_name_text d s) sound).0 (some_name (slice_get d.states s) (state_name o s hs)) in
      let second : state_named d (state_name_text d r) ≡ Some r
      = (state_has_name d r (state_name_text d r) sound).0 (some_name (slice_get d.states r) (state_name o r hr)) in
      same_Some s r (sym first ∙ ap (state_named d) e ∙ second)
