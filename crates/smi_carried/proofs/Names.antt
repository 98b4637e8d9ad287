-- Names of objects and states: of which bytes they are, and whose they are.
use Rattle.std.proofs.Common.{◌≡◌, ◌≢◌, ◌∙◌, ap, refl, sym, ℕ, ◌&&◌, Bool, true, false, List, [], ◌∷◌, Option, Some, None, length, slice_get, option_map, arith}
use Rattle.std.specs.Prelude.{codes, nat_le}
use Rattle.std.proofs.lemmas.Bool.Decides.{nat_tests}
use Rattle.std.proofs.lemmas.Option.{same_Some}
use Rattle.std.specs.Char.{is_ascii_alphabetic}
use Rattle.std.specs.List.{list_all}
use Rattle.sml_text.specs.declared.limits.TheConstants.{LONGEST_NAME}
use Rattle.sml_text.specs.Tokens.{Each}
use Rattle.sml_tree.specs.Word.{is_name_byte, is_name_text}
use Rattle.sml_domain.specs.Domain.{Domain}
use Rattle.sml_domain.specs.Lookups.{name_of_object, object_named}
use Rattle.sml_domain.specs.Sound.{IsObject, IsSound}
use Rattle.sml_domain.proofs.Domains.{object_has_name}
use Rattle.smi_journal.specs.CallText.{name_or_nothing, object_name_text}
use Rattle.smi_journal.specs.HasText.{HasNames, IsNameText, is_object_number}
use Rattle.smi_carried.specs.Pieces.{is_other_byte}
use Rattle.smi_carried.proofs.Cuts.{each_more}

pub both_true : (a b : Bool) → (a && b) ≡ true → (a ≡ true) × (b ≡ true)
both_true true b h = (refl, h)
both_true false b h = absurd (cc h)

pub each_of_all : (p : ℕ → Bool) (w : List ℕ) → list_all p w ≡ true → Each p w
each_of_all p [] h = tt
each_of_all p (c ∷ w) h = let b = both_true (p c) (list_all p w) h in (b.0, each_of_all p w b.1)

letter_is_byte : (c : ℕ) → is_ascii_alphabetic c ≡ true → is_name_byte c ≡ true
letter_is_byte c h = grind (arith, nat_tests)

pub bytes_of_word : (w : List ℕ) → is_name_text w ≡ true → Each is_name_byte w
bytes_of_word [] h = tt
bytes_of_word (c ∷ w) h =
    let b = both_true (is_ascii_alphabetic c) (list_all is_name_byte w) h in (letter_is_byte c b.0, each_of_all is_name_byte w b.1)

pub word_of_name : (w : List ℕ) → IsNameText w → is_name_text w ≡ true
word_of_name w n = (both_true (is_name_text w) (nat_le (length w) LONGEST_NAME) n.word).0

no_blank_byte : (c : ℕ) → is_name_byte c ≡ true → is_other_byte 32 c ≡ true
no_blank_byte c h = grind (arith, nat_tests)

-- no byte of a name is a blank
pub name_bytes : (w : List ℕ) → IsNameText w → Each (is_other_byte 32) w
name_bytes w n = each_more is_name_byte (is_other_byte 32) w no_blank_byte (bytes_of_word w (word_of_name w n))

no_dash_letter : is_ascii_alphabetic 45 ≡ true → ⊥
no_dash_letter h = grind (arith, nat_tests)

-- `-` is no name
pub no_dash : (w : List ℕ) → IsNameText w → w ≢ codes "-"
no_dash w n e =
    let h : is_name_text (codes "-") ≡ true = ap is_name_text (sym e) ∙ word_of_name w n in
    no_dash_letter (both_true (is_ascii_alphabetic 45) (list_all is_name_byte []) h).0

-- where a name stands there is one
pub some_name : (x : Option (List ℕ)) → IsNameText (name_or_nothing x) → x ≡ Some (name_or_nothing x)
some_name None n = let f : false ≡ true = n.word in absurd (cc f)
some_name (Some w) n = refl

module _ (d : Domain) (sound : IsSound d) (names : HasNames d) where
  object_number : (o : ℕ) → IsObject d o → is_object_number d o ≡ true
  object_number o lt = grind (arith, nat_tests, lt)

  pub object_name : (o : ℕ) → IsObject d o → IsNameText (object_name_text d o)
  object_name o lt = names.objects o (object_number o lt)

  pub named_object : (o : ℕ) → IsObject d o → object_named d (object_name_text d o) ≡ Some o
  named_object o lt =
      (object_has_name d o (object_name_text d o) sound).0 (some_name (option_map name_of_object (slice_get d.objects o)) (object_name o lt))

  pub one_object_name : (o p : ℕ) → IsObject d o → IsObject d p → object_name_text d o ≡ object_name_text d p → o ≡ p
  one_object_name o p lo lp e = same_Some o p (sym (named_object o lo) ∙ ap (object_named d) e ∙ named_object p lp)
