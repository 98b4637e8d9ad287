-- What is not clear stays so, where no entry ends an action, kills an object or changes a set; and whom an entry frees.
use Rattle.std.proofs.Common.{◌≡◌, ℕ, Bool, true, false, cond, List, [], ◌∷◌, ◌++◌, length, Option, Some, None, refl, sym, ap, ◌∙◌, subst, ⊎_elim}
use Rattle.std.specs.Prelude.{◌&&◌, ◌||◌, ◌==◌, not, nat_eq, is_some, slice_set}
use Rattle.std.specs.List.{flat_map, list_any}
use Rattle.std.proofs.lemmas.Bool.{eq-eqb, eqb-true, ne_eqb, true≢false}
use Rattle.std.proofs.lemmas.List.{append_assoc, append-nil}
use Rattle.std.proofs.lemmas.List.Concat.{flat_map-cons}
use Rattle.sml_domain.specs.Asking.{asked_of}
use Rattle.sml_domain.specs.Domain.{Domain}
use Rattle.sml_domain.specs.Lookups.{members_at}
use Rattle.sml_domain.specs.Program.{Subject, OfOne, OfEach, OfAny}
use Rattle.smi_journal_entries.specs.declared.letter.Letter.{Letter}
use Rattle.smi_journal_entries.specs.declared.entry.ActionEnd.{ActionEnd}
use Rattle.smi_journal_entries.specs.declared.entry.ActionEnd.TheVariants as ends
use Rattle.smi_journal_entries.specs.declared.entry.Cause.{Cause}
use Rattle.smi_journal_entries.specs.declared.entry.Entry.{Entry}
use Rattle.smi_journal_entries.specs.declared.entry.Entry.TheVariants.{End, Insert, Kill, Remove}
use Rattle.smi_journal_entries.specs.declared.entry.Sender.TheVariants.{Object}
use Rattle.smi_journal_entries.specs.Requests.{Request, from_sender}
use Rattle.smi_journal_entries.specs.Sets.{Sets, changed_to, members_in, sets_after, sets_next, with_change, without}
use Rattle.smi_journal_entries.specs.Words.{any_start, is_clear, is_kill, is_killed, killed_at, killed_next, kills, object_of, open_at, open_next, opened_by, place_next, post_in, posted_to, posts_between, start_in, start_of, starts_at, change_entry}
use Rattle.smi_journal_entries.proofs.Changing.{change_written}
use Rattle.smi_journal_entries.proofs.OneMore.{killed_more, open_more, posts_more, sets_more, starts_more}
use Rattle.smi_interp.specs.declared.contact.Contact.{Contact}
use Rattle.smi_interp.specs.declared.contact.Contact.TheVariants as named
use Rattle.smi_interp.specs.Task.{TaskView}
use Rattle.smi_board.specs.declared.starting.Started.{Started}
use Rattle.smi_board.specs.declared.starting.Started.TheVariants.{Run, Perform, Skipped}
use Rattle.smi_board.specs.Holders.{holder_of}
use Rattle.smi_board.specs.Looks.{ArePlaced, IsFreed, all_read, is_skipped}
use Rattle.smi_board.specs.Rings.{is_in_ring}
use Rattle.smi_board.specs.Starts.{entries_of}
use Rattle.smi_board.proofs.Looks.{freed_placed, in_back, in_either, in_front, none_listed, placed_dead, placed_more}

-- whether an object is clear, by what the words of a journal say
abbrev pub clear_by : ℕ → Option ℕ → Option Letter → List Request → List Request → Bool
clear_by a k l ps ss = is_some k || (not (is_some l) && nat_eq (length ps) (length (from_sender (Object a) ss)))

-- the same behind one more entry
pub clear_more : (J : List Entry) (e : Entry) (a x : ℕ) → is_clear a x (J ++ e ∷ [])
    ≡ clear_by a (killed_next x (length J) (killed_at x J) e) (open_next x (open_at x J) e)
    (posts_between a x J ++ post_in a x e) (starts_at x J ++ start_in x e)
clear_more J e a x =
    ap (λ k. clear_by a k (open_at x (J ++ e ∷ [])) (posts_between a x (J ++ e ∷ [])) (starts_at x (J ++ e ∷ [])))
    (killed_more x J e)
    ∙ ap (λ l. clear_by a (killed_next x (length J) (killed_at x J) e) l (posts_between a x (J ++ e ∷ []))
    (starts_at x (J ++ e ∷ []))) (open_more x J e)
    ∙ ap (λ ps. clear_by a (killed_next x (length J) (killed_at x J) e) (open_next x (open_at x J) e) ps
    (starts_at x (J ++ e ∷ []))) (posts_more a x J e)
    ∙ ap (λ ss. clear_by a (killed_next x (length J) (killed_at x J) e) (open_next x (open_at x J) e)
    (posts_between a x J ++ post_in a x e) ss) (starts_more x J e)

pub same_either : {X : Type 0} (b : Bool) (x : X) → cond b x x ≡ x
same_either true x = refl
same_either false x = refl

pub same_place : (n : ℕ) (was : Option ℕ) (passes : Bool) → passes ≡ false → place_next n was passes ≡ was
same_place n None passes is = ap (λ b. cond b (Some n) None) is
same_place n (Some i) passes is = refl

pub same_behind : (xs ys : List Request) → ys ≡ [] → xs ++ ys ≡ xs
same_behind xs ys is = ap (λ y. xs ++ y) is ∙ append-nil xs

-- an entry that touches none of these words leaves clear what is clear, and no more
pub same_clear : (J : List Entry) (e : Entry) (a x : ℕ) → kills x e ≡ false
    → open_next x (open_at x J) e ≡ open_at x J → post_in a x e ≡ [] → start_in x e ≡ []
    → is_clear a x (J ++ e ∷ []) ≡ is_clear a x J
same_clear J e a x alive opens posts starts =
    clear_more J e a x
    ∙ ap (λ k. clear_by a k (open_next x (open_at x J) e) (posts_between a x J ++ post_in a x e)
    (starts_at x J ++ start_in x e)) (same_place (length J) (killed_at x J) (kills x e) alive)
    ∙ ap (λ l. clear_by a (killed_at x J) l (posts_between a x J ++ post_in a x e) (starts_at x J ++ start_in x e))
    opens
    ∙ ap (λ ps. clear_by a (killed_at x J) (open_at x J) ps (starts_at x J ++ start_in x e))
    (same_behind (posts_between a x J) (post_in a x e) posts)
    ∙ ap (λ ss. clear_by a (killed_at x J) (open_at x J) (posts_between a x J) ss)
    (same_behind (starts_at x J) (start_in x e) starts)

-- what an entry posts to an object, where it posts nothing there
no_post : (a x : ℕ) (e : Entry) → posted_to x e ≡ [] → post_in a x e ≡ []
no_post a x e none = ap (λ ps. cond (a == object_of e) ps []) none ∙ same_either (a == object_of e) []

-- an entry that neither starts, posts, ends nor kills
quiet_clear : (J : List Entry) (e : Entry) (a x : ℕ) → is_kill e ≡ false → opened_by (open_at x J) e ≡ open_at x J
    → posted_to x e ≡ [] → any_start e ≡ []
    → is_clear a x (J ++ e ∷ []) ≡ is_clear a x J
quiet_clear J e a x alive opens posts starts =
    same_clear J e a x (ap (λ b. cond (x == object_of e) b false) alive ∙ same_either (x == object_of e) false)
    (ap (λ l. cond (x == object_of e) l (open_at x J)) opens ∙ same_either (x == object_of e) (open_at x J))
    (no_post a x e posts)
    (ap (λ ss. cond (x == object_of e) ss []) starts ∙ same_either (x == object_of e) [])

-- an entry of another object that posts nothing
apart_clear : (J : List Entry) (e : Entry) (a x : ℕ) → (x == object_of e) ≡ false → posted_to x e ≡ []
    → is_clear a x (J ++ e ∷ []) ≡ is_clear a x J
apart_clear J e a x apart posts =
    same_clear J e a x (ap (λ b. cond b (is_kill e) false) apart)
    (ap (λ b. cond b (opened_by (open_at x J) e) (open_at x J)) apart) (no_post a x e posts)
    (ap (λ b. cond b (any_start e) []) apart)

-- who is alive was so before
pub alive_before : (J : List Entry) (e : Entry) (o : ℕ) → is_killed o (J ++ e ∷ []) ≡ false → is_killed o J ≡ false
alive_before J e o alive = by (killed_at o J) (ap is_some (sym (killed_more o J e)) ∙ alive)
  where
    by : (k : Option ℕ) → is_some (place_next (length J) k (kills o e)) ≡ false → is_some k ≡ false
    by None is = refl
    by (Some p) is = is

-- an object that starts is clear for none, and others are as they were
start_held : (J : List Entry) (o : ℕ) (l : Letter) (a x : ℕ) → is_clear a x J ≡ false
    → is_clear a x (J ++ start_of o l ∷ []) ≡ false
start_held J o l a x held =
    clear_more J (start_of o l) a x
    ∙ ap (λ k. clear_by a k (open_next x (open_at x J) (start_of o l))
    (posts_between a x J ++ post_in a x (start_of o l)) (starts_at x J ++ start_in x (start_of o l)))
    (same_place (length J) (killed_at x J) (kills x (start_of o l)) (same_either (x == o) false))
    ∙ ap (λ ps. clear_by a (killed_at x J) (open_next x (open_at x J) (start_of o l)) ps
    (starts_at x J ++ start_in x (start_of o l)))
    (same_behind (posts_between a x J) (post_in a x (start_of o l)) (same_either (a == o) []))
    ∙ by (x == o)
  where
    first_false : (k b : Bool) → (k || b) ≡ false → (k || false) ≡ false
    first_false true b e = e
    first_false false b e = refl

    by : (b : Bool) → clear_by a (killed_at x J) (cond b (Some l) (open_at x J)) (posts_between a x J)
        (starts_at x J ++ cond b (any_start (start_of o l)) []) ≡ false
    by true = first_false (is_some (killed_at x J)) _ held
    by false = ap (λ ss. clear_by a (killed_at x J) (open_at x J) (posts_between a x J) ss)
        (append-nil (starts_at x J)) ∙ held

-- ---- entries that free nobody

-- where sets are as they were and none that is not clear becomes clear, all tasks stay placed
pub placed_same : (d : Domain) (J K : List Entry) (kept : List (Option TaskView)) (list : List ℕ)
    (holders : List (Option ℕ))
    → sets_after d K ≡ sets_after d J → ((o : ℕ) → is_killed o K ≡ false → is_killed o J ≡ false)
    → ((a x : ℕ) → is_clear a x J ≡ false → is_clear a x K ≡ false) → ArePlaced d J kept list holders
    → ArePlaced d K kept list holders
placed_same d J K kept list holders sets alive each h =
    placed_more d J K kept list holders alive (λ o x t is holds. record {
      among = ap (λ s. is_in_ring x (all_read d s t.pending)) sets ∙ holds.among;
      busy = each o x holds.busy;
    }) h

-- behind an entry that neither starts, posts, ends, kills nor changes a set
pub placed_quiet : (d : Domain) (J K : List Entry) (kept : List (Option TaskView)) (list : List ℕ)
    (holders : List (Option ℕ)) (e : Entry) → K ≡ J ++ e ∷ []
    → sets_next d (sets_after d J) e ≡ sets_after d J → is_kill e ≡ false
    → ((x : ℕ) → opened_by (open_at x J) e ≡ open_at x J)
    → ((x : ℕ) → posted_to x e ≡ []) → any_start e ≡ [] → ArePlaced d J kept list holders
    → ArePlaced d K kept list holders
placed_quiet d J K kept list holders e is sets alive opens posts starts h =
    subst (λ L. ArePlaced d L kept list holders) (sym is)
    (placed_same d J (J ++ e ∷ []) kept list holders (sets_more d J e ∙ sets) (alive_before J e)
    (λ a x held. quiet_clear J e a x alive (opens x) (posts x) starts ∙ held) h)

-- behind a start
start_placed : (d : Domain) (J : List Entry) (kept : List (Option TaskView)) (list : List ℕ)
    (holders : List (Option ℕ)) (o : ℕ) (l : Letter)
    → ArePlaced d J kept list holders → ArePlaced d (J ++ start_of o l ∷ []) kept list holders
start_placed d J kept list holders o l =
    placed_same d J (J ++ start_of o l ∷ []) kept list holders (sets_more d J (start_of o l))
    (alive_before J (start_of o l)) (start_held J o l)

-- behind one that is not skipped
pub placed_started : (d : Domain) (J K : List Entry) (kept : List (Option TaskView)) (list : List ℕ)
    (holders : List (Option ℕ)) (o : ℕ) (l : Letter) (r : Started)
    → K ≡ J ++ entries_of o l r → is_skipped r ≡ false → ArePlaced d J kept list holders
    → ArePlaced d K kept list holders
placed_started d J K kept list holders o l (Run t) is runs h = subst (λ L. ArePlaced d L kept list holders) (sym is)
    (start_placed d J kept list holders o l h)
placed_started d J K kept list holders o l (Perform a args) is runs h = subst (λ L. ArePlaced d L kept list holders)
    (sym is) (start_placed d J kept list holders o l h)
placed_started d J K kept list holders o l Skipped is runs h = absurd (true≢false runs)

-- ---- entries that free those that are listed with an object

-- those that were listed with an object were freed
abbrev pub AllFreed : ℕ → List (Option ℕ) → List (Option ℕ) → List ℕ → List ℕ → Type 0
AllFreed x holders holders2 list list2 = (o : ℕ)
    → IsFreed x (holder_of holders o) (holder_of holders2 o) (is_in_ring o list) (is_in_ring o list2)

-- one that is listed still is listed with another
listed_apart : (x : ℕ) (holders holders2 : List (Option ℕ)) (list list2 : List ℕ)
    → AllFreed x holders holders2 list list2
    → (o y : ℕ) → holder_of holders2 o ≡ Some y → y ≡ x → ⊥
listed_apart x holders holders2 list list2 freed o y is same = none_listed x _ _ _ _ (freed o) (is ∙ ap Some same)

-- behind an entry of an object that posts nothing and changes no set
ends_placed : (d : Domain) (J : List Entry) (kept : List (Option TaskView)) (list list2 : List ℕ)
    (holders holders2 : List (Option ℕ)) (e : Entry)
    → sets_next d (sets_after d J) e ≡ sets_after d J → ((x : ℕ) → posted_to x e ≡ [])
    → AllFreed (object_of e) holders holders2 list list2
    → ArePlaced d J kept list holders → ArePlaced d (J ++ e ∷ []) kept list2 holders2
ends_placed d J kept list list2 holders holders2 e sets posts freed h =
    placed_more d J (J ++ e ∷ []) kept list2 holders2 (alive_before J e) (λ o x t is holds. record {
      among = ap (λ s. is_in_ring x (all_read d s t.pending)) (sets_more d J e ∙ sets) ∙ holds.among;
      busy =
          apart_clear J e o x (ne_eqb x (object_of e)
          (listed_apart (object_of e) holders holders2 list list2 freed o x is)) (posts x)
          ∙ holds.busy;
    }) (freed_placed d J kept list list2 holders holders2 (object_of e) freed h)

-- behind an end
pub placed_ended : (d : Domain) (J K : List Entry) (kept : List (Option TaskView)) (list list2 : List ℕ)
    (holders holders2 : List (Option ℕ)) (o : ℕ) (r : ActionEnd)
    → K ≡ J ++ End o r ∷ [] → AllFreed o holders holders2 list list2 → ArePlaced d J kept list holders
    → ArePlaced d K kept list2 holders2
placed_ended d J K kept list list2 holders holders2 o r is freed h =
    subst (λ L. ArePlaced d L kept list2 holders2) (sym is)
    (ends_placed d J kept list list2 holders holders2 (End o r) refl (λ x. refl) freed h)

-- behind a start that is skipped
pub placed_skip : (d : Domain) (J K : List Entry) (kept : List (Option TaskView)) (list list2 : List ℕ)
    (holders holders2 : List (Option ℕ)) (o : ℕ) (l : Letter) (r : Started)
    → K ≡ J ++ entries_of o l r → is_skipped r ≡ true → AllFreed o holders holders2 list list2
    → ArePlaced d J kept list holders → ArePlaced d K kept list2 holders2
placed_skip d J K kept list list2 holders holders2 o l (Run t) is skips freed h = absurd (true≢false (sym skips))
placed_skip d J K kept list list2 holders holders2 o l (Perform a args) is skips freed h = absurd
    (true≢false (sym skips))
placed_skip d J K kept list list2 holders holders2 o l Skipped is skips freed h =
    placed_ended d (J ++ start_of o l ∷ []) K kept list list2 holders holders2 o ends.Skipped (is
    ∙ sym (append_assoc J (start_of o l ∷ []) (End o ends.Skipped ∷ []))) freed
    (start_placed d J kept list holders o l h)

-- behind any start, where those that were listed with its object were freed exactly if it was skipped
pub placed_begun : (d : Domain) (J K : List Entry) (kept : List (Option TaskView)) (list list2 : List ℕ)
    (holders holders2 : List (Option ℕ)) (o : ℕ) (l : Letter) (r : Started)
    → K ≡ J ++ entries_of o l r → (is_skipped r ≡ true → AllFreed o holders holders2 list list2)
    → (is_skipped r ≡ false → (list2 ≡ list) × (holders2 ≡ holders))
    → ArePlaced d J kept list holders → ArePlaced d K kept list2 holders2
placed_begun d J K kept list list2 holders holders2 o l r is freed same h = by (is_skipped r) refl
  where
    by : (b : Bool) → is_skipped r ≡ b → ArePlaced d K kept list2 holders2
    by true skips = placed_skip d J K kept list list2 holders holders2 o l r is skips (freed skips) h
    by false runs =
        subst (λ xs. ArePlaced d K kept xs holders2) (sym (same runs).0)
        (subst (ArePlaced d K kept list) (sym (same runs).1)
        (placed_started d J K kept list holders o l r is runs h))

-- behind a kill
pub placed_killed : (d : Domain) (J K : List Entry) (kept : List (Option TaskView)) (list list2 : List ℕ)
    (holders holders2 : List (Option ℕ)) (o : ℕ) (c : Cause)
    → K ≡ J ++ Kill o c ∷ [] → AllFreed o holders holders2 list list2 → ArePlaced d J kept list holders
    → ArePlaced d K kept list2 holders2
placed_killed d J K kept list list2 holders holders2 o c is freed h =
    subst (λ L. ArePlaced d L kept list2 holders2) (sym is)
    (ends_placed d J kept list list2 holders holders2 (Kill o c) refl (λ x. refl) freed h)

-- who is killed is killed behind that
killed_now : (J : List Entry) (o : ℕ) (c : Cause) → is_killed o (J ++ Kill o c ∷ []) ≡ true
killed_now J o c = ap is_some (killed_more o J (Kill o c)) ∙ by (killed_at o J)
  where
    by : (k : Option ℕ) → is_some (place_next (length J) k (kills o (Kill o c))) ≡ true
    by None = ap (λ b. is_some (cond (cond b true false) (Some (length J)) None)) (eq-eqb o o refl)
    by (Some p) = refl

-- behind a kill, where its task is dropped
pub placed_kill : (d : Domain) (J K : List Entry) (kept kept2 : List (Option TaskView)) (list list2 : List ℕ)
    (holders holders2 : List (Option ℕ)) (o : ℕ) (c : Cause)
    → K ≡ J ++ Kill o c ∷ [] → kept2 ≡ slice_set kept o None → AllFreed o holders holders2 list list2
    → ArePlaced d J kept list holders → ArePlaced d K kept2 list2 holders2
placed_kill d J K kept kept2 list list2 holders holders2 o c is put freed h =
    placed_dead d K kept kept2 list2 holders2 o (ap (is_killed o) is ∙ killed_now J o c) put
    (placed_killed d J K kept list list2 holders holders2 o c is freed h)

-- ---- a change of a set

-- others than the one that is put in or taken out stay members
in_without : (x m : ℕ) (xs : List ℕ) → (x ≡ m → ⊥) → is_in_ring x xs ≡ true → is_in_ring x (without m xs) ≡ true
in_without x m [] apart h = h
in_without x m (y ∷ ys) apart h = go (m == y) refl (y == x) refl h (in_without x m ys apart)
  where
    go : (b : Bool) → (m == y) ≡ b → (c : Bool) → (y == x) ≡ c → (c || is_in_ring x ys) ≡ true
        → (is_in_ring x ys ≡ true → is_in_ring x (without m ys) ≡ true)
        → is_in_ring x (without m (y ∷ ys)) ≡ true
    go true e true f there rest = absurd (apart (sym (eqb-true m y e ∙ eqb-true y x f)))
    go true e false f there rest = rw e (rest there)
    go false e true f there rest = rw e (ap (λ b. b || is_in_ring x (without m ys)) f)
    go false e false f there rest = rw e (ap (λ b. b || is_in_ring x (without m ys)) f ∙ rest there)

in_changed : (x m : ℕ) (add : Bool) (xs : List ℕ) → (x ≡ m → ⊥) → is_in_ring x xs ≡ true
    → is_in_ring x (changed_to add m xs) ≡ true
in_changed x m false xs apart h = in_without x m xs apart h
in_changed x m true xs apart h = go (list_any (nat_eq m) xs)
  where
    go : (b : Bool) → is_in_ring x (cond b xs (xs ++ m ∷ [])) ≡ true
    go true = h
    go false = in_front x xs (m ∷ []) h

-- those whom names stand for, where each set that has one as its member has it still
in_named : (x : ℕ) (was now : ℕ → List ℕ) (names : List Subject)
    → ((s : ℕ) → is_in_ring x (was s) ≡ true → is_in_ring x (now s) ≡ true)
    → is_in_ring x (flat_map (asked_of was) names) ≡ true → is_in_ring x (flat_map (asked_of now) names) ≡ true
in_named x was now [] each h = h
in_named x was now (n ∷ names) each h =
    ap (is_in_ring x) (flat_map-cons (asked_of now) n names)
    ∙ ⊎_elim (λ there. in_front x (asked_of now n) (flat_map (asked_of now) names) (one n there))
    (λ there. in_back x (asked_of now n) (flat_map (asked_of now) names) (in_named x was now names each there))
    (in_either x (asked_of was n) (flat_map (asked_of was) names)
    (ap (is_in_ring x) (sym (flat_map-cons (asked_of was) n names)) ∙ h))
  where
    one : (n : Subject) → is_in_ring x (asked_of was n) ≡ true → is_in_ring x (asked_of now n) ≡ true
    one (OfOne o) there = there
    one (OfEach set) there = each set there
    one (OfAny set) there = each set there

in_read : (d : Domain) (sets : Sets) (add : Bool) (x m set : ℕ) → (x ≡ m → ⊥) → (p : Option Contact)
    → is_in_ring x (all_read d sets p) ≡ true
    → is_in_ring x (all_read d (with_change d sets add m set) p) ≡ true
in_read d sets add x m set apart None h = h
in_read d sets add x m set apart (Some (named.Send wanted)) h = h
in_read d sets add x m set apart (Some (named.Change a b c)) h = h
in_read d sets add x m set apart (Some (named.End s)) h = h
in_read d sets add x m set apart (Some (named.Local p v)) h = h
in_read d sets add x m set apart (Some (named.Read names)) h =
    in_named x (members_in d sets) (members_in d (with_change d sets add m set)) names (λ s there.
    change_written (λ ms. is_in_ring x ms ≡ true) d sets add m set s there
    (λ e. in_changed x m add (members_in d sets set) apart (ap (λ y. is_in_ring x (members_in d sets y)) e ∙ there))) h

-- behind a change, where those that are listed with its object were freed
change_placed : (d : Domain) (J : List Entry) (kept : List (Option TaskView)) (list list2 : List ℕ)
    (holders holders2 : List (Option ℕ)) (add : Bool) (m set : ℕ) (e : Entry)
    → sets_next d (sets_after d J) e ≡ with_change d (sets_after d J) add m set → is_kill e ≡ false
    → ((x : ℕ) → opened_by (open_at x J) e ≡ open_at x J)
    → ((x : ℕ) → posted_to x e ≡ []) → any_start e ≡ [] → AllFreed m holders holders2 list list2
    → ArePlaced d J kept list holders → ArePlaced d (J ++ e ∷ []) kept list2 holders2
change_placed d J kept list list2 holders holders2 add m set e sets alive opens posts starts freed h =
    placed_more d J (J ++ e ∷ []) kept list2 holders2 (alive_before J e) (λ o x t is holds. record {
      among =
          ap (λ s. is_in_ring x (all_read d s t.pending)) (sets_more d J e ∙ sets)
          ∙ in_read d (sets_after d J) add x m set
          (listed_apart m holders holders2 list list2 freed o x is) t.pending holds.among;
      busy = quiet_clear J e o x alive (opens x) (posts x) starts ∙ holds.busy;
    }) (freed_placed d J kept list list2 holders holders2 m freed h)

pub placed_changed : (d : Domain) (J K : List Entry) (kept : List (Option TaskView)) (list list2 : List ℕ)
    (holders holders2 : List (Option ℕ)) (o : ℕ) (add : Bool) (m set : ℕ)
    → K ≡ J ++ change_entry o add m set ∷ [] → AllFreed m holders holders2 list list2
    → ArePlaced d J kept list holders → ArePlaced d K kept list2 holders2
placed_changed d J K kept list list2 holders holders2 o true m set is freed h =
    subst (λ L. ArePlaced d L kept list2 holders2) (sym is)
    (change_placed d J kept list list2 holders holders2 true m set (Insert o m set) refl refl (λ x. refl)
    (λ x. refl) refl freed h)
placed_changed d J K kept list list2 holders holders2 o false m set is freed h =
    subst (λ L. ArePlaced d L kept list2 holders2) (sym is)
    (change_placed d J kept list list2 holders holders2 false m set (Remove o m set) refl refl (λ x. refl)
    (λ x. refl) refl freed h)
