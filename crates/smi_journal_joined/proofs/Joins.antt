-- What holds of two journals, the second of which begins where the first has led.
use Rattle.std.proofs.Common.{◌≡◌, ◌<◌, ◌≤◌, ℕ, ◌+◌, zero, suc, Bool, true, false, cond, List, [], ◌∷◌, ◌++◌, Option, Some, length, slice_get, slice_set, refl, sym, ap, ◌∙◌, subst, append_assoc, append-nil, ⊎_elim, arith}
use Rattle.std.specs.Prelude.{fold, if◌then◌else◌, is_some}
use Rattle.std.specs.List.{position_from}
use Rattle.std.specs.Option.{option_map_or}
use Rattle.std.proofs.lemmas.Grind.{fold-append, flat_map-append}
use Rattle.std.proofs.lemmas.List.Elements.{filter-append}
use Rattle.std.proofs.lemmas.List.{length-map}
use Rattle.sml_domain.specs.Domain.{Domain}
use Rattle.std.proofs.lemmas.Bool.{cases_lt, eq-eqb}
use Rattle.std.proofs.lemmas.Option.{slice_get_past}
use Rattle.sml_domain.specs.Lookups.{members_at, members_of_group}
use Rattle.smi_journal_entries.specs.declared.entry.Cause.{Cause}
use Rattle.smi_journal_entries.specs.declared.entry.Entry.{Entry}
use Rattle.smi_journal_entries.specs.declared.entry.Entry.TheVariants.{Start, Post, Wait, Seen, End, Kill, Insert, Remove, NoMember}
use Rattle.smi_journal_entries.specs.declared.entry.Sender.{Sender}
use Rattle.smi_journal_entries.specs.Requests.{Request, same_sender, from_sender}
use Rattle.smi_journal_entries.specs.Words.{initial_of, dead_of, state_of, state_next, state_after, starts_at, start_in, is_killed, kills}
use Rattle.smi_journal_entries.specs.Sets.{Sets, as_declared, unchanged, or_declared, members_in, changed_to, changes_nothing, with_change, sets_next, sets_after, members_after}
use Rattle.smi_journal_entries.proofs.Changing.{begin_declared}
use Rattle.smi_journal_joined.specs.Joined.{GoesOn, StatesGoOn, MembersGoOn, FrontsGoOn, KillsGoOn, GoesOnAgain}

-- ---- states

pub states_go_on : StatesGoOn
states_go_on d e J K goes o lt =
    ap (λ first. state_after o first (dead_of e o) K) (goes.states o lt)
    ∙ ap (λ dead. state_after o (state_of d o J) dead K) (goes.dead o)
    ∙ sym (fold-append (state_next o (dead_of d o)) (initial_of d o) J K)

-- ---- members

-- sets of two domains with the same members
pub record AreSame (d e : Domain) (x y : Sets) : Type 0 where
  pub long : length x ≡ length y
  pub same : (set : ℕ) → members_in e y set ≡ members_in d x set

length_set : (x : Sets) (set : ℕ) (v : Option (List ℕ)) → length (slice_set x set v) ≡ length x
length_set [] set v = refl
length_set (s ∷ x) zero v = refl
length_set (s ∷ x) (suc set) v = ap suc (length_set x set v)

both_written : (c b : List ℕ) (x y : Sets) (set other : ℕ) (m n : List ℕ) → length x ≡ length y → n ≡ m
    → option_map_or (or_declared b) (slice_get y other) b ≡ option_map_or (or_declared c) (slice_get x other) c
    → option_map_or (or_declared b) (slice_get (slice_set y set (Some n)) other) b ≡ option_map_or (or_declared c) (slice_get (slice_set x set (Some m)) other) c
both_written c b [] [] set other m n long is h = h
both_written c b [] (t ∷ y) set other m n long is h = absurd (cc long)
both_written c b (s ∷ x) [] set other m n long is h = absurd (cc long)
both_written c b (s ∷ x) (t ∷ y) zero zero m n long is h = is
both_written c b (s ∷ x) (t ∷ y) zero (suc other) m n long is h = h
both_written c b (s ∷ x) (t ∷ y) (suc set) zero m n long is h = h
both_written c b (s ∷ x) (t ∷ y) (suc set) (suc other) m n long is h = both_written c b x y set other m n (cc long) is h

module _ (d e : Domain) where
  same_change : (x y : Sets) (add : Bool) (o set : ℕ) → AreSame d e x y → AreSame d e (with_change d x add o set) (with_change e y add o set)
  same_change x y add o set h =
      subst (λ c. AreSame d e (with_change d x add o set) (if c then y else slice_set y set (Some (changed_to add o (members_in e y set)))))
      (sym (ap (changes_nothing add o) (h.same set))) (go (changes_nothing add o (members_in d x set)))
    where
      go : (b : Bool) → AreSame d e (if b then x else slice_set x set (Some (changed_to add o (members_in d x set))))
          (if b then y else slice_set y set (Some (changed_to add o (members_in e y set))))
      go true = h
      go false = record {
        long = length_set x set _ ∙ h.long ∙ sym (length_set y set _);
        same = λ other. both_written (members_at d other) (members_at e other) x y set other _ _ h.long (ap (changed_to add o) (h.same set)) (h.same other);
      }

  same_next : (x y : Sets) (n : Entry) → AreSame d e x y → AreSame d e (sets_next d x n) (sets_next e y n)
  same_next x y (Start o s n a args) h = h
  same_next x y (Post o t v a args) h = h
  same_next x y (Wait o) h = h
  same_next x y (Seen o rs) h = h
  same_next x y (End o r) h = h
  same_next x y (Kill o c) h = h
  same_next x y (Insert o m set) h = same_change x y true m set h
  same_next x y (Remove o m set) h = same_change x y false m set h
  same_next x y (NoMember o set) h = h

  same_after : (x y : Sets) (K : List Entry) → AreSame d e x y → AreSame d e (fold (sets_next d) x K) (fold (sets_next e) y K)
  same_after x y [] h = h
  same_after x y (n ∷ K) h = same_after (sets_next d x n) (sets_next e y n) K (same_next x y n h)

  length_change : (x : Sets) (add : Bool) (o set : ℕ) → length (with_change d x add o set) ≡ length x
  length_change x add o set = go (changes_nothing add o (members_in d x set))
    where
      go : (b : Bool) → length (if b then x else slice_set x set (Some (changed_to add o (members_in d x set)))) ≡ length x
      go true = refl
      go false = length_set x set (Some (changed_to add o (members_in d x set)))

  length_next : (x : Sets) (n : Entry) → length (sets_next d x n) ≡ length x
  length_next x (Start o s n a args) = refl
  length_next x (Post o t v a args) = refl
  length_next x (Wait o) = refl
  length_next x (Seen o rs) = refl
  length_next x (End o r) = refl
  length_next x (Kill o c) = refl
  length_next x (Insert o m set) = length_change x true m set
  length_next x (Remove o m set) = length_change x false m set
  length_next x (NoMember o set) = refl

  length_after : (x : Sets) (K : List Entry) → length (fold (sets_next d) x K) ≡ length x
  length_after x [] = refl
  length_after x (n ∷ K) = length_after (sets_next d x n) K ∙ length_next x n

  -- past the last set there are no members
  none_past : (g : Domain) (x : Sets) (set : ℕ) → length x ≡ length g.groups → length g.groups ≤ set → members_in g x set ≡ []
  none_past g x set long le =
      ap (λ m. option_map_or (or_declared (members_at g set)) m (members_at g set)) (slice_get_past x set (omega (arith, le, long)))
      ∙ ap (λ m. option_map_or members_of_group m []) (slice_get_past g.groups set le)

  same_members : (J : List Entry) → GoesOn d e J → (set : ℕ) → members_at e set ≡ members_after d set J
  same_members J goes set = ⊎_elim
      (λ (lt : set < length d.groups). goes.members set lt)
      (λ (le : length d.groups ≤ set).
      ap (λ m. option_map_or members_of_group m []) (slice_get_past e.groups set (omega (arith, le, goes.groups)))
      ∙ sym (none_past d (sets_after d J) set (length_after (unchanged d) J ∙ length-map d.groups as_declared) le))
      (cases_lt set (length d.groups))

  same_first : (J : List Entry) → GoesOn d e J → AreSame d e (sets_after d J) (unchanged e)
  same_first J goes = record {
    long = length_after (unchanged d) J ∙ length-map d.groups as_declared ∙ sym goes.groups ∙ sym (length-map e.groups as_declared);
    same = λ set. begin_declared e set ∙ same_members J goes set;
  }

pub members_go_on : MembersGoOn
members_go_on d e J K goes set =
    (same_after d e (sets_after d J) (unchanged e) K (same_first d e J goes)).same set
    ∙ sym (ap (λ x. members_in d x set) (fold-append (sets_next d) (unchanged d) J K))

pub goes_on_again : GoesOnAgain
goes_on_again d e g J K first second = record {
  objects = second.objects ∙ first.objects;
  groups = second.groups ∙ first.groups;
  dead = λ o. second.dead o ∙ first.dead o;
  states = λ o lt. second.states o (subst (λ n. o < n) (sym first.objects) lt) ∙ states_go_on d e J K first o lt;
  members = λ set lt. second.members set (subst (λ n. set < n) (sym first.groups) lt) ∙ members_go_on d e J K first set;
}

-- ---- starts

starts_joined : (o : ℕ) (J K : List Entry) → starts_at o (J ++ K) ≡ starts_at o J ++ starts_at o K
starts_joined o J K = flat_map-append (start_in o) J K

from_joined : (s : Sender) (xs ys : List Request) → from_sender s (xs ++ ys) ≡ from_sender s xs ++ from_sender s ys
from_joined s xs ys = filter-append (λ (r : Request). same_sender s r.sender) xs ys

both_started : (s : Sender) (o : ℕ) (J K : List Entry) → from_sender s (starts_at o (J ++ K)) ≡ from_sender s (starts_at o J) ++ from_sender s (starts_at o K)
both_started s o J K = ap (from_sender s) (starts_joined o J K) ∙ from_joined s (starts_at o J) (starts_at o K)

pub fronts_go_on : FrontsGoOn
fronts_go_on J K first second rests killed was now o s = ⊎_elim
    (λ (done : from_sender s (starts_at o J) ≡ from_sender s (first o)). (
      more.0,
      ap (λ xs. xs ++ more.0) (both_started s o J K) ∙ append_assoc (from_sender s (starts_at o J)) (from_sender s (starts_at o K)) more.0
          ∙ ap (λ xs. xs ++ (from_sender s (starts_at o K) ++ more.0)) done ∙ ap (λ xs. from_sender s (first o) ++ xs) more.1
          ∙ sym (from_joined s (first o) (second o)),
    ))
    (λ (dead : is_killed o J ≡ true). (
      left.0 ++ from_sender s (second o),
      ap (λ xs. xs ++ (left.0 ++ from_sender s (second o)))
          (both_started s o J K ∙ ap (λ xs. from_sender s (starts_at o J) ++ from_sender s xs) (killed o dead) ∙ append-nil (from_sender s (starts_at o J)))
          ∙ sym (append_assoc (from_sender s (starts_at o J)) left.0 (from_sender s (second o)))
          ∙ ap (λ xs. xs ++ from_sender s (second o)) left.1 ∙ sym (from_joined s (first o) (second o)),
    ))
    (rests.done o s)
  where
    more : (rest : List Request) × (from_sender s (starts_at o K) ++ rest ≡ from_sender s (second o))
    more = now o s

    left : (rest : List Request) × (from_sender s (starts_at o J) ++ rest ≡ from_sender s (first o))
    left = was o s

-- ---- kills

-- a journal with a kill of an object kills it
killed_in : (o n : ℕ) (front back : List Entry) (by : Cause)
    → is_some (position_from (kills o) n (front ++ Kill o by ∷ back)) ≡ true
killed_in o n [] back by =
    ap (λ b. is_some (cond (if b then true else false) (Some n) (position_from (kills o) (n + 1) back))) (eq-eqb o o refl)
killed_in o n (e ∷ front) back by = either (kills o e) _ (killed_in o (n + 1) front back by)
  where
    either : (b : Bool) (rest : Option ℕ) → is_some rest ≡ true → is_some (cond b (Some n) rest) ≡ true
    either true rest h = refl
    either false rest h = h

pub kills_go_on : KillsGoOn
kills_go_on front back K o by none h =
    starts_joined o back K ∙ ap (λ xs. xs ++ starts_at o K) h ∙ none o (killed_in o 0 front back by)
