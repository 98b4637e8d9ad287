-- What is not clear stays so behind posts and behind a wait.
use Rattle.std.proofs.Common.{◌≡◌, ◌≤◌, ◌+◌, ℕ, Bool, true, false, cond, List, [], ◌∷◌, ◌++◌, length, Option, refl, sym, ap, ◌∙◌, subst, arith}
use Rattle.std.specs.Prelude.{◌&&◌, ◌||◌, ◌==◌, not, nat_eq, is_some}
use Rattle.std.proofs.lemmas.Bool.{eq-eqb, eqb-true, true≢false}
use Rattle.std.proofs.lemmas.List.{length-append}
use Rattle.sml_domain.specs.Domain.{Domain}
use Rattle.smi_journal_entries.specs.declared.entry.Entry.{Entry}
use Rattle.smi_journal_entries.specs.declared.entry.Entry.TheVariants.{Wait}
use Rattle.smi_journal_entries.specs.declared.entry.Sender.TheVariants.{Object}
use Rattle.smi_journal_entries.specs.declared.entry.Verdict.{Verdict}
use Rattle.smi_journal_entries.specs.declared.journal.Format.TheVariants.{Two}
use Rattle.smi_journal_entries.specs.Requests.{from_sender}
use Rattle.smi_journal_entries.specs.Sets.{sets_after}
use Rattle.smi_journal_entries.specs.Words.{is_clear, is_killed, killed_at, kills, open_at, open_next, post_in, posts_between, start_in, starts_at, waits_at}
use Rattle.smi_journal_entries.proofs.OneMore.{posts_more, sets_more, starts_more}
use Rattle.smi_meaning.specs.Items.{Post, entry_of}
use Rattle.smi_meaning.specs.Legal.{IsLegal}
use Rattle.smi_meaning.proofs.Numbered.{started_is_a_front}
use Rattle.smi_interp.specs.Task.{TaskView}
use Rattle.smi_board.specs.Looks.{ArePlaced}
use Rattle.smi_board.specs.Posting.{AreJudged, Lists}
use Rattle.smi_board.specs.Reading.{waited}
use Rattle.smi_board.proofs.Held.{alive_before, clear_by, clear_more, placed_quiet, placed_same, same_behind, same_either, same_place}

-- no more requests of an object were started than it posted
abbrev AreFewer : List Entry → Type 0
AreFewer J = (a x : ℕ) → length (from_sender (Object a) (starts_at x J)) ≤ length (posts_between a x J)

fewer_of : (d : Domain) (J : List Entry) → IsLegal Two d J → AreFewer J
fewer_of d J legal a x =
    let front = started_is_a_front Two d J a x legal in
    let is : length (posts_between a x J) ≡ length (from_sender (Object a) (starts_at x J)) + length front.0 =
    ap length front.1 ∙ length-append (from_sender (Object a) (starts_at x J)) front.0 in
    omega (arith, is)

-- where fewer were started than posted, more posts make no difference
more_posts : (k l : Bool) (n m s : ℕ) → s ≤ n → n ≤ m → (k || (l && nat_eq n s)) ≡ false
    → (k || (l && nat_eq m s)) ≡ false
more_posts true l n m s le up e = e
more_posts false false n m s le up e = refl
more_posts false true n m s le up e = by (nat_eq m s) refl
  where
    by : (b : Bool) → nat_eq m s ≡ b → nat_eq m s ≡ false
    by false is = is
    by true is =
        let same : m ≡ s = eqb-true m s is in
        let other : n ≡ s = omega (arith, le, up, same) in
        absurd (true≢false (sym (eq-eqb n s other) ∙ e))

-- the posts of an entry are added to those before it
posts_up : (J : List Entry) (a x : ℕ) (e : Entry)
    → length (posts_between a x J) ≤ length (posts_between a x J ++ post_in a x e)
posts_up J a x e =
    let is = length-append (posts_between a x J) (post_in a x e) in
    omega (arith, is)

-- a post frees nobody
post_held : (J : List Entry) (o : ℕ) (p : Post) (v : Verdict) → AreFewer J → (a x : ℕ) → is_clear a x J ≡ false
    → is_clear a x (J ++ entry_of o p v ∷ []) ≡ false
post_held J o p v few a x held =
    let e = entry_of o p v in
    clear_more J e a x
    ∙ ap (λ k. clear_by a k (open_next x (open_at x J) e) (posts_between a x J ++ post_in a x e)
    (starts_at x J ++ start_in x e)) (same_place (length J) (killed_at x J) (kills x e) (same_either (x == o) false))
    ∙ ap (λ l. clear_by a (killed_at x J) l (posts_between a x J ++ post_in a x e) (starts_at x J ++ start_in x e))
    (same_either (x == o) (open_at x J))
    ∙ ap (λ ss. clear_by a (killed_at x J) (open_at x J) (posts_between a x J ++ post_in a x e) ss)
    (same_behind (starts_at x J) (start_in x e) (same_either (x == o) []))
    ∙ more_posts (is_some (killed_at x J)) (not (is_some (open_at x J))) (length (posts_between a x J))
    (length (posts_between a x J ++ post_in a x e)) (length (from_sender (Object a) (starts_at x J))) (few a x)
    (posts_up J a x e) held

fewer_more : (J : List Entry) (o : ℕ) (p : Post) (v : Verdict) → AreFewer J → AreFewer (J ++ entry_of o p v ∷ [])
fewer_more J o p v few a x =
    let e = entry_of o p v in
    let starts : length (from_sender (Object a) (starts_at x (J ++ e ∷ []))) ≡ length
    (from_sender (Object a) (starts_at x J)) =
    ap (λ ss. length (from_sender (Object a) ss)) (starts_more x J e
    ∙ same_behind (starts_at x J) (start_in x e) (same_either (x == o) [])) in
    let posts : length (posts_between a x (J ++ e ∷ [])) ≡ length (posts_between a x J ++ post_in a x e) = ap length
    (posts_more a x J e) in
    let le = few a x in
    let up = posts_up J a x e in
    omega (arith, starts, posts, le, up)

-- nor do posts that were judged one after another
judged_held : (o : ℕ) (m m2 : Lists) (J J2 : List Entry) (ps : List Post) (vs : List Verdict) → AreFewer J
    → AreJudged o m J ps vs m2 J2
    → (a x : ℕ) → is_clear a x J ≡ false → is_clear a x J2 ≡ false
judged_held o m m2 J J2 [] [] few judged a x held = subst (λ K. is_clear a x K ≡ false) (sym judged.1) held
judged_held o m m2 J J2 [] (v ∷ vs) few judged a x held = absurd judged
judged_held o m m2 J J2 (p ∷ ps) [] few judged a x held = absurd judged
judged_held o m m2 J J2 (p ∷ ps) (v ∷ vs) few judged a x held =
    judged_held o judged.0 m2 (J ++ entry_of o p v ∷ []) J2 ps vs (fewer_more J o p v few) judged.2 a x
    (post_held J o p v few a x held)

judged_sets : (d : Domain) (o : ℕ) (m m2 : Lists) (J J2 : List Entry) (ps : List Post) (vs : List Verdict)
    → AreJudged o m J ps vs m2 J2
    → sets_after d J2 ≡ sets_after d J
judged_sets d o m m2 J J2 [] [] judged = ap (sets_after d) judged.1
judged_sets d o m m2 J J2 [] (v ∷ vs) judged = absurd judged
judged_sets d o m m2 J J2 (p ∷ ps) [] judged = absurd judged
judged_sets d o m m2 J J2 (p ∷ ps) (v ∷ vs) judged =
    judged_sets d o judged.0 m2 (J ++ entry_of o p v ∷ []) J2 ps vs judged.2 ∙ sets_more d J (entry_of o p v)

-- none of them kills
judged_alive : (o : ℕ) (m m2 : Lists) (J J2 : List Entry) (ps : List Post) (vs : List Verdict)
    → AreJudged o m J ps vs m2 J2
    → (x : ℕ) → is_killed x J2 ≡ false → is_killed x J ≡ false
judged_alive o m m2 J J2 [] [] judged x alive = subst (λ K. is_killed x K ≡ false) judged.1 alive
judged_alive o m m2 J J2 [] (v ∷ vs) judged x alive = absurd judged
judged_alive o m m2 J J2 (p ∷ ps) [] judged x alive = absurd judged
judged_alive o m m2 J J2 (p ∷ ps) (v ∷ vs) judged x alive =
    alive_before J (entry_of o p v) x (judged_alive o judged.0 m2 (J ++ entry_of o p v ∷ []) J2 ps vs judged.2 x alive)

-- behind the posts of a `do`
pub placed_sent : (d : Domain) (J J2 : List Entry) (kept : List (Option TaskView)) (list : List ℕ)
    (holders : List (Option ℕ)) (o : ℕ) (m m2 : Lists)
    (ps : List Post) (vs : List Verdict) → IsLegal Two d J → AreJudged o m J ps vs m2 J2
    → ArePlaced d J kept list holders → ArePlaced d J2 kept list holders
placed_sent d J J2 kept list holders o m m2 ps vs legal judged were =
    placed_same d J J2 kept list holders (judged_sets d o m m2 J J2 ps vs judged)
    (judged_alive o m m2 J J2 ps vs judged)
    (judged_held o m m2 J J2 ps vs (fewer_of d J legal) judged) were

-- behind a wait, whether it is added or stands already
pub placed_waiting : (d : Domain) (J K : List Entry) (kept : List (Option TaskView)) (list : List ℕ)
    (holders : List (Option ℕ)) (o : ℕ)
    → K ≡ waited o J → ArePlaced d J kept list holders → ArePlaced d K kept list holders
placed_waiting d J K kept list holders o is were = subst (λ L. ArePlaced d L kept list holders) (sym is)
    (by (waits_at o J))
  where
    by : (b : Bool) → ArePlaced d (cond b J (J ++ Wait o ∷ [])) kept list holders
    by true = were
    by false = placed_quiet d J (J ++ Wait o ∷ []) kept list holders (Wait o) refl refl refl (λ x. refl)
        (λ x. refl) refl were
