-- The books of a journal that is not kept, after an entry.
use Rattle.std.proofs.Common.{◌≡◌, ◌<◌, ◌+◌, ℕ, List, [], ◌∷◌, ◌++◌, length, map, get_or, None, Some, refl, sym, ap, ◌∙◌, subst, arith, length-append, true, false}
use Rattle.std.specs.Prelude.{slice_get, slice_set, Option}
use Rattle.std.specs.List.{slice_index_or, sum_by}
use Rattle.std.proofs.lemmas.Bool.{eq-eqb}
use Rattle.sml_domain.specs.Domain.{Domain}
use Rattle.smi_journal_entries.specs.declared.entry.Entry.{Entry}
use Rattle.smi_journal_entries.specs.declared.entry.Entry.TheVariants.{Start, Post, Wait, Seen, End, Kill, Insert, Remove, NoMember}
use Rattle.smi_journal_entries.specs.declared.entry.Sender.TheVariants.{Operator, Object}
use Rattle.smi_journal_entries.specs.Journals.{most_entries}
use Rattle.smi_journal_entries.specs.Words.{object_of, any_start, all_starts, dead_of, killed_at}
use Rattle.smi_journal_entries.specs.Sets.{Sets, sets_next, AreOf}
use Rattle.smi_journal_entries.proofs.OneMore.{all_more}
use Rattle.smi_journal_entries.proofs.Changing.{changes_are_of}
use Rattle.smi_ledger.specs.Views.{SlotView, BooksView}
use Rattle.smi_ledger.specs.Slots.{slot_by, SlotTakes}
use Rattle.smi_ledger.specs.Tables.{HasCounts, IsKnown}
use Rattle.smi_ledger.specs.Books.{Says, closing_of, room_of, BooksAreKept, IsBooked, NamesKnown, DiesOnce, started_of, posted_between}
use Rattle.smi_ledger.proofs.Tables.{set_there}
use Rattle.smi_ledger.proofs.Bounds.{started_few, posted_few, table_few}
use Rattle.smi_ledger.proofs.Kept.{Found, found, kept_as, the_view, closing_written}
use Rattle.smi_ledger.proofs.Rooms.{roomed, with_room}
use Rattle.smi_mail_plain.specs.Counts.{session_places}

-- what is seen of books
abbrev pub the_books : Domain → List Entry → BooksView
the_books d J = record { domain = d; journal = J }

-- no room is kept beside that of what is open
owned : (d : Domain) (J : List Entry) (held spare : ℕ) (slots : List SlotView) (starts : ℕ) (sets : Sets)
    → BooksAreKept d J held spare slots starts sets → BooksAreKept d J (sum_by closing_of slots) 0 slots starts sets
owned d J held spare slots starts sets h = record {
  count = h.count;
  says = h.says;
  all = h.all;
  room = omega arith;
  members = h.members;
  are = h.are;
}

-- the slot of an object of the domain is at its place, and says what the journal says
pub booked_at : (d : Domain) (J : List Entry) (count : ℕ) (last : Option ℕ) (slots : List SlotView) (sets : Sets)
    (seen : BooksView) (o x : ℕ) (slot : SlotView) → IsBooked d J count last slots sets
    → the_books d J ≡ seen → o < length seen.domain.objects → x ≡ o → slot ≡ get_or slots x slot
    → Found d J slots o x slot
booked_at d J count last slots sets seen o x slot h view lt is read =
    let within : o < length d.objects = subst (λ (v : BooksView). o < length v.domain.objects) (sym view) lt in
    found d J (sum_by closing_of slots) 0 slots (length (all_starts J)) sets (the_view d J 0 (map room_of slots)) o x
    slot h.kept refl within is read

-- more room for answers at a slot
pub booked_roomed : (d : Domain) (J : List Entry) (count : ℕ) (last : Option ℕ) (slots : List SlotView) (sets : Sets)
    (x : ℕ) (was new : SlotView) → IsBooked d J count last slots sets → slice_get slots x ≡ Some was
    → new ≡ with_room was new.answers.room → IsBooked d J count last (slice_set slots x new) sets
booked_roomed d J count last slots sets x was new h at is = record {
  counted = h.counted;
  ends = h.ends;
  kept = owned d J (sum_by closing_of slots) 0 (slice_set slots x new) (length (all_starts J)) sets
      (roomed d J (sum_by closing_of slots) 0 slots (length (all_starts J)) x sets was new h.kept at is);
}

-- a slot that is written again
pub written_there : (slots : List SlotView) (x y : ℕ) (was new : SlotView) → slice_get slots x ≡ Some was → y ≡ x
    → slice_get (slice_set slots x new) y ≡ Some new
written_there slots x y was new at is = subst (λ k. slice_get (slice_set slots x new) k ≡ Some new) (sym is)
    (set_there slots x x new was true (eq-eqb x x refl) at)

-- the members of sets after an entry are objects of the domain
sets_fit : (d : Domain) (sets : Sets) (e : Entry) → NamesKnown d e → AreOf d sets → AreOf d (sets_next d sets e)
sets_fit d sets (Start x s n a args) known are = are
sets_fit d sets (Post x t v a args) known are = are
sets_fit d sets (Wait x) known are = are
sets_fit d sets (Seen x rs) known are = are
sets_fit d sets (End x r) known are = are
sets_fit d sets (Kill x c) known are = are
sets_fit d sets (Insert x o set) known are = changes_are_of d sets true o set known.1 are
sets_fit d sets (Remove x o set) known are = changes_are_of d sets false o set known.1 are
sets_fit d sets (NoMember x set) known are = are

-- one entry more
pub booked_more : (d : Domain) (J : List Entry) (count : ℕ) (last : Option ℕ) (slots : List SlotView) (sets : Sets)
    (x : ℕ) (was new : SlotView) (e : Entry) → IsBooked d J count last slots sets → slice_get slots x ≡ Some was
    → object_of e ≡ x → NamesKnown d e → new ≡ slot_by (dead_of d x) (length J) sets was e
    → IsBooked d (J ++ e ∷ []) (count + 1) (Some (object_of e)) (slice_set slots x new) (sets_next d sets e)
booked_more d J count last slots sets x was new e h at of known slot =
    let starts : length (all_starts (J ++ e ∷ [])) ≡ length (all_starts J) + length (any_start e) = ap length
    (all_more J e) ∙ length-append (all_starts J) (any_start e) in
    let sums = closing_written slots x was new at in
    let rooms : sum_by closing_of (slice_set slots x new) + (0 + closing_of was) ≡ sum_by closing_of slots +
    (0 + closing_of new) = omega (arith, sums) in
    record {
      counted = ap (λ n. n + 1) h.counted ∙ sym (length-append J (e ∷ []));
      ends = (J, e, refl, refl);
      kept = kept_as d J (J ++ e ∷ []) (sum_by closing_of slots) 0 (sum_by closing_of (slice_set slots x new)) 0 slots
          (length (all_starts J)) (length (all_starts (J ++ e ∷ []))) x sets (sets_next d sets e) e was new
          h.kept at of refl slot starts rooms refl (sets_fit d sets e known h.kept.are);
    }

-- fewer were counted than a count holds
few_counted : (n m : ℕ) (count : ℕ → ℕ) (table : List ℕ) → length table ≡ n → HasCounts n count table
    → ((i : ℕ) → count i < m) → (i : ℕ) → i < length table → slice_index_or table i 0 < m
few_counted n m count table long h below i lt = table_few n m count table h below i (subst (λ k. i < k) long lt)

-- a slot takes the next entry
pub slot_takes : (d : Domain) (J : List Entry) (o : ℕ) (slot : SlotView) (e : Entry) → Says d J o slot
    → object_of e ≡ o → NamesKnown d e → DiesOnce J e → length J < most_entries → SlotTakes slot e
slot_takes d J o slot (Start x s n a args) says of known once few = record {
  sessions = says.sessions_there;
  known = subst (λ k. IsKnown k s) (sym says.objects_there) known.1;
  sessions_few = few_counted session_places most_entries (λ k. started_of (Operator k) o J) slot.of_sessions
      says.sessions_there says.of_sessions
      (λ i. let le = started_few (Operator i) o J in omega (arith, le, few));
  objects_few = few_counted (length d.objects) most_entries (λ k. started_of (Object k) o J) slot.of_objects
      says.objects_there says.of_objects
      (λ i. let le = started_few (Object i) o J in omega (arith, le, few));
}
slot_takes d J o slot (Post x t v a args) says of known once few = (
  subst (λ k. t < k) (sym says.targets_there) known.1,
  few_counted (length d.objects) most_entries (λ k. posted_between o k J) slot.posted says.targets_there says.posted
      (λ i. let le = posted_few o i J in omega (arith, le, few)),
)
slot_takes d J o slot (Wait x) says of known once few = tt
slot_takes d J o slot (Seen x rs) says of known once few = tt
slot_takes d J o slot (End x r) says of known once few = tt
slot_takes d J o slot (Kill x c) says of known once few = says.killed ∙ subst (λ k. killed_at k J ≡ None) of once
slot_takes d J o slot (Insert x u set) says of known once few = tt
slot_takes d J o slot (Remove x u set) says of known once few = tt
slot_takes d J o slot (NoMember x set) says of known once few = tt

-- the object of an entry is one of the domain's
pub known_within : (d : Domain) (e : Entry) → NamesKnown d e → object_of e < length d.objects
known_within d (Start x s n a args) h = h.0
known_within d (Post x t v a args) h = h.0
known_within d (Wait x) h = h
known_within d (Seen x rs) h = h
known_within d (End x r) h = h
known_within d (Kill x c) h = h
known_within d (Insert x o set) h = h.0
known_within d (Remove x o set) h = h.0
known_within d (NoMember x set) h = h

-- what is so of a slot to which room was added, before it takes an entry
pub record Ready (d : Domain) (J : List Entry) (count : ℕ) (last : Option ℕ) (slots : List SlotView) (sets : Sets)
    (e : Entry) (y : ℕ) (was : SlotView) : Type 0 where
  pub booked : IsBooked d J count last slots sets
  pub known : NamesKnown d e
  pub at : slice_get slots y ≡ Some was
  pub says : Says d J (object_of e) was
  pub of : object_of e ≡ y

pub ready : (d : Domain) (J : List Entry) (count : ℕ) (last : Option ℕ) (slots : List SlotView) (sets : Sets)
    (seen : BooksView) (e : Entry) (o x y : ℕ) (was mid was2 : SlotView) → IsBooked d J count last slots sets
    → the_books d J ≡ seen → NamesKnown seen.domain e → o ≡ object_of e → x ≡ o → y ≡ o → was ≡ get_or slots x was
    → mid ≡ with_room was mid.answers.room → was2 ≡ get_or (slice_set slots x mid) y was2
    → Ready d J count last (slice_set slots x mid) sets e y was2
ready d J count last slots sets seen e o x y was mid was2 h view names of x_is y_is read room read2 =
    let lt = known_within seen.domain e names in
    let first = booked_at d J count last slots sets seen (object_of e) x was h view lt (x_is ∙ of) read in
    let booked = booked_roomed d J count last slots sets x was mid h first.at room in
    let next = booked_at d J count last (slice_set slots x mid) sets seen (object_of e) y was2 booked view lt
    (y_is ∙ of) read2 in
    record {
      booked = booked;
      known = subst (λ (v : BooksView). NamesKnown v.domain e) (sym view) names;
      at = next.at;
      says = next.says;
      of = sym (y_is ∙ of);
    }

-- it takes the entry
pub ready_takes : (d : Domain) (J : List Entry) (count : ℕ) (last : Option ℕ) (slots : List SlotView) (sets : Sets)
    (seen : BooksView) (e : Entry) (y : ℕ) (was : SlotView) → Ready d J count last slots sets e y was
    → the_books d J ≡ seen → DiesOnce seen.journal e → count < most_entries → SlotTakes was e
ready_takes d J count last slots sets seen e y was r view once few =
    let long = r.booked.counted in
    slot_takes d J (object_of e) was e r.says refl r.known
    (subst (λ (v : BooksView). DiesOnce v.journal e) (sym view) once) (omega (arith, long, few))

-- where it did not, it is as it was
pub ready_left : (d : Domain) (J : List Entry) (count : ℕ) (last : Option ℕ) (slots : List SlotView) (sets : Sets)
    (e : Entry) (y : ℕ) (was new : SlotView) → Ready d J count last slots sets e y was
    → new ≡ was → IsBooked d J count last (slice_set slots y new) sets
ready_left d J count last slots sets e y was new r same = booked_roomed d J count last slots sets y was new r.booked
    r.at (same ∙ ap (λ (s : SlotView). with_room was s.answers.room) (sym same))

-- where it did, the entry is booked
pub entered : (d : Domain) (J J2 : List Entry) (count count2 : ℕ) (last : Option ℕ) (slots : List SlotView)
    (sets sets2 : Sets) (e : Entry) (o y dead place : ℕ) (was new : SlotView) → Ready d J count last slots sets e y was
    → J2 ≡ J ++ e ∷ [] → count2 ≡ count + 1 → o ≡ object_of e → sets2 ≡ sets_next d sets e → dead ≡ dead_of d o
    → place ≡ count → new ≡ slot_by dead place sets was e
    → IsBooked d J2 count2 (Some o) (slice_set slots y new) sets2
entered d J J2 count count2 last slots sets sets2 e o y dead place was new r journal more of changed dies stands slot =
    let dead_is : dead ≡ dead_of d y = dies ∙ ap (dead_of d) (of ∙ r.of) in
    let by : new ≡ slot_by (dead_of d y) (length J) sets was e = slot ∙ ap (λ k. slot_by k place sets was e) dead_is
    ∙ ap (λ k. slot_by (dead_of d y) k sets was e) (stands ∙ r.booked.counted) in
    subst (λ l. IsBooked d l count2 (Some o) (slice_set slots y new) sets2) (sym journal)
    (subst (λ n. IsBooked d (J ++ e ∷ []) n (Some o) (slice_set slots y new) sets2) (sym more)
    (subst (λ k. IsBooked d (J ++ e ∷ []) (count + 1) (Some k) (slice_set slots y new) sets2) (sym of)
    (subst (λ s. IsBooked d (J ++ e ∷ []) (count + 1) (Some (object_of e)) (slice_set slots y new) s) (sym changed)
    (booked_more d J count last slots sets y was new e r.booked r.at r.of r.known by))))
