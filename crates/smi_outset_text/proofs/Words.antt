-- Names of members, one after another up to a line feed.
use Rattle.std.proofs.Common.{◌≡◌, ◌≢◌, ◌∙◌, sym, ap, refl, subst, ℕ, false, List, [], ◌∷◌, ◌++◌, Some, None, All, Contains, inl, inr, append_assoc, append-nil, flat_map, length, arith}
use Rattle.std.specs.Prelude.{◌⊎◌}
use Rattle.sml_text.specs.Tokens.{Over}
use Rattle.std.proofs.lemmas.List.{append_cancel_left}
use Rattle.sml_domain.specs.Domain.{Domain}
use Rattle.sml_domain.specs.Lookups.{may_at}
use Rattle.sml_domain.specs.Sound.{IsObject, IsSound}
use Rattle.sml_domain.proofs.Finds.{all_head, all_tail}
use Rattle.sml_domain.proofs.Setted.{may_there}
use Rattle.smi_journal.specs.CallText.{object_name_text}
use Rattle.sml_tree.specs.Word.{is_name_byte}
use Rattle.smi_journal.specs.HasText.{HasNames}
use Rattle.smi_outset_text.proofs.Names.{name_bytes, object_name, one_object_name}
use Rattle.sml_outset.specs.Suits.{MembersSuit}
use Rattle.smi_outset_text.specs.OutsetText.{member_word, outset_members_front}
use Rattle.smi_outset_text.specs.Reading.{EndsWord, MemberIsRead, MembersAreRead, NoMemberOf, ReadsWords, WordsAreRead, WordsGoOn}
use Rattle.smi_outset_text.proofs.Fronts.{one_front}

abbrev rest_of : List ℕ → List ℕ
rest_of [] = []
rest_of (c ∷ cs) = cs

abbrev first_of : List ℕ → ℕ
first_of [] = 0
first_of (c ∷ cs) = c

-- where a word ends no byte of a name is in front
ends_over : (e : List ℕ) → EndsWord e → Over is_name_byte e
ends_over [] h = tt
ends_over (c ∷ cs) h = by c h
  where
    by : (c : ℕ) → (c ≡ 32) ⊎ (c ≡ 10) → is_name_byte c ≡ false
    by c (inl e) = ap is_name_byte e
    by c (inr e) = ap is_name_byte e

-- so it ends before further words, and before the line feed
pub more_ends : (d : Domain) (ms more : List ℕ) → EndsWord (flat_map (member_word d) ms ++ 10 ∷ more)
more_ends d [] more = inr refl
more_ends d (m ∷ ms) more = inl refl

module _ (d : Domain) (sound : IsSound d) (names : HasNames d) where
  -- the name that is in front is that of one object
  pub one_object : (o p : ℕ) (e f : List ℕ) → IsObject d o → IsObject d p → EndsWord e → EndsWord f
      → member_word d o ++ e ≡ member_word d p ++ f → (o ≡ p) × (e ≡ f)
  one_object o p e f ho hp he hf eq =
      let both = one_front is_name_byte (object_name_text d o) (object_name_text d p) e f
      (name_bytes (object_name_text d o) (object_name d sound names o ho)) (name_bytes (object_name_text d p) (object_name d sound names p hp))
      (ends_over e he) (ends_over f hf) (ap rest_of eq) in
      (one_object_name d sound names o p ho hp both.0, both.1)

  module _ (set : ℕ) where
    contained : (o : ℕ) → Contains (may_at d set) o → IsObject d o
    contained o c = subst (IsObject d) c.2 (may_there d set sound c.0 o c.1)

    -- one object more is read
    pub words_more : (text members rest more : List ℕ) (o : ℕ) → WordsGoOn d set text members rest → Contains (may_at d set) o
        → MemberIsRead d rest o more → WordsGoOn d set text (members ++ o ∷ []) more
    words_more text members rest more o on may read all last h = step (on all last h)
      where
        step : (others : List ℕ) × (all ≡ members ++ others) × WordsAreRead d set rest others last
            → (others : List ℕ) × (all ≡ (members ++ o ∷ []) ++ others) × WordsAreRead d set more others last
        step ([], e, w) = let x : 10 ≡ 32 = ap first_of (sym w.1 ∙ read.0) in absurd (omega (arith, x))
        step (p ∷ ps, e, w) =
            let eq : member_word d p ++ (flat_map (member_word d) ps ++ 10 ∷ last) ≡ member_word d o ++ more
            = sym (append_assoc (member_word d p) (flat_map (member_word d) ps) (10 ∷ last)) ∙ sym w.1 ∙ read.0 in
            let both = one_object p o (flat_map (member_word d) ps ++ 10 ∷ last) more (contained p (all_head (Contains (may_at d set)) p ps w.0)) (contained o may)
            (more_ends d ps last) read.1 eq in
            (ps, e ∙ ap (λ k. members ++ k ∷ ps) both.0 ∙ sym (append_assoc members (o ∷ []) ps), (all_tail (Contains (may_at d set)) p ps w.0, sym both.1))

    -- where none is read, no names stand there
    pub words_none : (text members rest : List ℕ) → WordsGoOn d set text members rest → ((more : List ℕ) → rest ≢ 10 ∷ more)
        → NoMemberOf d rest (may_at d set) (length (may_at d set)) → ReadsWords d set text None
    words_none text members rest on other none all last h = step (on all last h)
      where
        step : (others : List ℕ) × (all ≡ members ++ others) × WordsAreRead d set rest others last → ⊥
        step ([], e, w) = other last w.1
        step (p ∷ ps, e, w) =
            let c : Contains (may_at d set) p = all_head (Contains (may_at d set)) p ps w.0 in
            none c.0 p (flat_map (member_word d) ps ++ 10 ∷ last) c.1
            (subst (λ k. MemberIsRead d rest k (flat_map (member_word d) ps ++ 10 ∷ last)) (sym c.2)
            (w.1 ∙ append_assoc (member_word d p) (flat_map (member_word d) ps) (10 ∷ last), more_ends d ps last))

    -- where the line feed is in front, all names were read
    pub words_all : (text members rest last : List ℕ) → All (Contains (may_at d set)) members → text ≡ flat_map (member_word d) members ++ rest
        → WordsGoOn d set text members rest → rest ≡ 10 ∷ last → ReadsWords d set text (Some (members, last))
    words_all text members rest last may whole on is =
        ((may, whole ∙ ap (λ l. flat_map (member_word d) members ++ l) is), λ all more h. step all more (on all more h))
      where
        step : (all more : List ℕ) → (others : List ℕ) × (all ≡ members ++ others) × WordsAreRead d set rest others more → all ≡ members
        step all more ([], e, w) = e ∙ append-nil members
        step all more (p ∷ ps, e, w) = let x : 10 ≡ 32 = ap first_of (sym is ∙ w.1) in absurd (omega (arith, x))

-- the words behind the front of the line
module _ (d : Domain) (set : ℕ) (text words : List ℕ) (is : text ≡ outset_members_front d set ++ words) where
  pub words_behind : (members more : List ℕ) → MembersAreRead d set text members more → WordsAreRead d set words members more
  words_behind members more h = (
    h.0.may,
    append_cancel_left (outset_members_front d set) words (flat_map (member_word d) members ++ 10 ∷ more)
        (sym is ∙ h.1 ∙ append_assoc (outset_members_front d set) (flat_map (member_word d) members ++ 10 ∷ []) more
        ∙ ap (λ l. outset_members_front d set ++ l) (append_assoc (flat_map (member_word d) members) (10 ∷ []) more)),
  )

  pub members_read : (members more : List ℕ) → MembersSuit d set members → WordsAreRead d set words members more → MembersAreRead d set text members more
  members_read members more suit w = (
    suit,
    is ∙ ap (λ l. outset_members_front d set ++ l) (w.1 ∙ sym (append_assoc (flat_map (member_word d) members) (10 ∷ []) more))
        ∙ sym (append_assoc (outset_members_front d set) (flat_map (member_word d) members ++ 10 ∷ []) more),
  )

-- where the word does not end, the name does not stand
pub not_ended : (d : Domain) (text : List ℕ) (o : ℕ) (after : List ℕ) → text ≡ member_word d o ++ after → (EndsWord after → ⊥)
    → (more : List ℕ) → MemberIsRead d text o more → ⊥
not_ended d text o after is not more read =
    not (subst EndsWord (append_cancel_left (member_word d o) more after (sym read.0 ∙ is)) read.1)
