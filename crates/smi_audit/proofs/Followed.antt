-- What a follower decides of the entries of its object.
use Rattle.std.proofs.Common.{◌≡◌, ◌≢◌, ℕ, Bool, true, false, List, [], ◌∷◌, ◌++◌, Option, Some, None, map, refl, sym, ap, ◌∙◌, subst, append_assoc}
use Rattle.std.specs.Prelude.{◌↔◌, All, IsSomeAnd, is_some, option_map, MatchBool}
use Rattle.std.specs.Option.{option_and_then}
use Rattle.sml_domain.specs.declared.value.Value.{Value}
use Rattle.sml_domain.specs.Program.{Subject, Target, ToOne, ToMembers, Program, Nothing, SetThen, SendThen, SendNoneThen, IfThen, EndIn, TerminateIn, WaitThen, ChangeThen}
use Rattle.sml_domain.specs.Domain.{Domain, Class, Param, Signature}
use Rattle.sml_domain.specs.Fits.{ProgramFits}
use Rattle.sml_domain.specs.Lookups.{associated_at, block_at, class_at, signature_in, tree_of_block}
use Rattle.sml_domain.specs.Sound.{IsObject, IsSound, FitsClass, TakesParams}
use Rattle.sml_domain.specs.Truth.{Reading}
use Rattle.sml_domain.proofs.Ranges.{class_fits, this_block_fits}
use Rattle.smi_journal_entries.specs.declared.letter.Letter.{Letter}
use Rattle.smi_journal_entries.specs.declared.entry.Entry.{Entry}
use Rattle.smi_journal_entries.specs.declared.entry.ActionEnd.TheVariants.{State}
use Rattle.smi_journal_entries.specs.declared.journal.Format.{Format}
use Rattle.smi_journal_entries.specs.Sets.{Sets, AreOf, members_in, sets_after}
use Rattle.smi_journal_entries.specs.Words.{Item, Sent, HadNone, Saw, Turned, open_at, shown_of, state_of}
use Rattle.smi_meaning.specs.Items.{Posted, item_of, sent_shown}
use Rattle.smi_meaning.specs.Conditions.{object_read, is_true_over}
use Rattle.smi_meaning.specs.Environment.{Env, value_of, with_set}
use Rattle.smi_meaning.specs.EntryLaws.{are_clear}
use Rattle.smi_meaning.specs.Legal.{ShowsNext, WaitsToRead, BlockEnds}
use Rattle.smi_meaning.specs.LegalLaws.{DoneOnce, ParamsAreOne}
use Rattle.smi_meaning.specs.Meaning.{Move, Outcome, Through, To, Means, Goes, state_left}
use Rattle.smi_meaning.specs.Params.{Running, run_with, running_in, running_at, env_of, IsDone}
use Rattle.smi_meaning.specs.Shown.{shown_moves, ToRead}
use Rattle.smi_meaning.specs.Quiet.{said_of_block}
use Rattle.smi_meaning.proofs.Silence.{said_fits}
use Rattle.smi_meaning.proofs.There.{AreThere, objects_there, objects_named_there}
use Rattle.smi_meaning.proofs.Picked.{on_branch, same_some}
use Rattle.smi_meaning.proofs.Showing.{shown-append}
use Rattle.smi_audit_rules.specs.Rules.{ObjectReadsNext as ReadsSome, EndMeans}
use Rattle.smi_interp.specs.Expanded.{objects_by_names}
use Rattle.smi_audit_follower.specs.Expecting.{FollowerReadsNext as ReadsNamed}
use Rattle.smi_audit_follower.specs.Following.{FollowerView, Asks, MayTell}
use Rattle.smi_audit_follower.specs.Laws.{IsFollowed, ShownIsLegal, WaitIsLegal, EndIsLegal}
use Rattle.smi_audit.specs.declared.calls.Call.{Call}
use Rattle.smi_audit.specs.Views.{TrackView}
use Rattle.smi_audit.specs.Tracks.{IsFollowing, IsTracked, MayBeTold, CannotShow, TrackGoesOn, Shows, TrackReadsNext, CannotRead, CannotEnd, EndsNow}

-- ---- what may be shown

-- the follower that is there follows
follows : (format : Format) (d : Domain) (J : List Entry) (o : ℕ) (was : Option FollowerView) (f : FollowerView)
    → was ≡ Some f → IsFollowing format d J o was → IsFollowed format d J o f
follows format d J o was f is h = subst (IsFollowing format d J o) is h

pub shows_true : (was now : TrackView) (item : Item) (calls : List (List Call)) (b : Bool) → b ≡ true
    → Shows was now item calls b → TrackGoesOn was now item calls
shows_true was now item calls true e h = h
shows_true was now item calls false e h = absurd (cc)

pub shows_false : (was now : TrackView) (item : Item) (calls : List (List Call)) (b : Bool) → b ≡ false
    → Shows was now item calls b → CannotShow was.follower item
shows_false was now item calls true e h = absurd (cc)
shows_false was now item calls false e h = h

cannot_show : ShownIsLegal → (format : Format) (d : Domain) (J : List Entry) (o : ℕ) (was : Option FollowerView)
    (item : Item) → IsFollowing format d J o was → CannotShow was item → ShowsNext format d J o item → ⊥
cannot_show law format d J o None item h c s = let e = sym h ∙ s.runs in absurd (cc)
cannot_show law format d J o (Some f) item h c s = c ((law format d J o f item h).0 s)

-- what the track does not show may not be shown
pub not_shown : ShownIsLegal → (format : Format) (d : Domain) (J : List Entry) (o : ℕ) (was now : TrackView)
    (item : Item) (calls : List (List Call)) (b : Bool) → IsTracked format d J o was → b ≡ false
    → Shows was now item calls b → ShowsNext format d J o item → ⊥
not_shown law format d J o was now item calls b h e s =
    cannot_show law format d J o was.follower item h.follows (shows_false was now item calls b e s)

-- and what it shows may
pub is_shown : ShownIsLegal → (format : Format) (d : Domain) (J : List Entry) (o : ℕ) (was now : TrackView)
    (item : Item) (calls : List (List Call)) (b : Bool) → IsTracked format d J o was → b ≡ true
    → Shows was now item calls b → ShowsNext format d J o item
is_shown law format d J o was now item calls b h e s =
    let g = shows_true was now item calls b e s in
    (law format d J o g.follower item (follows format d J o was.follower g.follower g.is h.follows)).1 g.may

-- the same of an item that is equal
pub not_shown_as : ShownIsLegal → (format : Format) (d : Domain) (J : List Entry) (o : ℕ) (was now : TrackView)
    (item item2 : Item) (calls : List (List Call)) (b : Bool) → IsTracked format d J o was → item2 ≡ item
    → b ≡ false → Shows was now item2 calls b
    → ShowsNext format d J o item → ⊥
not_shown_as law format d J o was now item item2 calls b h same e s =
    not_shown law format d J o was now item calls b h e (subst (λ x. Shows was now x calls b) same s)

pub is_shown_as : ShownIsLegal → (format : Format) (d : Domain) (J : List Entry) (o : ℕ) (was now : TrackView)
    (item item2 : Item) (calls : List (List Call)) (b : Bool) → IsTracked format d J o was → item2 ≡ item
    → b ≡ true → Shows was now item2 calls b
    → ShowsNext format d J o item
is_shown_as law format d J o was now item item2 calls b h same e s =
    is_shown law format d J o was now item calls b h e (subst (λ x. Shows was now x calls b) same s)

-- ---- what is read next

-- a reading of each object, in any state
any_readings : List ℕ → List Reading
any_readings [] = []
any_readings (x ∷ xs) = record { object = x; state = 0 } ∷ any_readings xs

any_objects : (xs : List ℕ) → map object_read (any_readings xs) ≡ xs
unfolding any_readings
any_objects [] = refl
any_objects (x ∷ xs) = ap (λ ys. x ∷ ys) (any_objects xs)

-- members of which the format may tell, as the follower sees them
told : (format : Format) (d : Domain) (J : List Entry) (o : ℕ) (f : FollowerView) (sets : Sets)
    → IsFollowed format d J o f → MayTell format d sets → MayTell f.format f.domain sets
told format d J o f sets h m =
    subst (λ x. MayTell x f.domain sets) (sym h.format_is) (subst (λ x. MayTell format x sets) (sym h.domain) m)

follower_told : (format : Format) (d : Domain) (J : List Entry) (o : ℕ) (was : Option FollowerView) (sets : Sets)
    → IsFollowing format d J o was → AreOf d sets → MayTell format d sets → MayBeTold sets was
follower_told format d J o None sets h are m = tt
follower_told format d J o (Some f) sets h are m =
    (subst (λ x. AreOf x sets) (sym h.domain) are, told format d J o f sets h m)

-- what is followed of an object may be told that sets have the members that they have now
pub may_be_told : (format : Format) (d : Domain) (J : List Entry) (o : ℕ) (t : TrackView) (sets : Sets)
    → IsTracked format d J o t → sets ≡ sets_after d J → AreOf d sets → MayTell format d (sets_after d J)
    → MayBeTold sets t.follower
may_be_told format d J o t sets h is are m =
    follower_told format d J o t.follower sets h.follows are (subst (MayTell format d) (sym is) m)

cannot_read : ShownIsLegal → (format : Format) (d : Domain) (J : List Entry) (o : ℕ) (was : Option FollowerView)
    → MayTell format d (sets_after d J) → IsFollowing format d J o was → CannotRead was → ReadsSome format d J o → ⊥
cannot_read law format d J o None m h c s = let e = sym h ∙ s.1.runs in absurd (cc)
cannot_read law format d J o (Some f) m h c s =
    c (sets_after d J) s.0 (told format d J o f (sets_after d J) h m)
    ((law format d J o f (Saw (record { sets = sets_after d J; readings = s.0 })) h).0 s.1)

-- where the track reads nothing next, nothing is read next
pub not_read : ShownIsLegal → (format : Format) (d : Domain) (J : List Entry) (o : ℕ) (t : TrackView)
    → MayTell format d (sets_after d J) → IsTracked format d J o t → CannotRead t.follower → ReadsSome format d J o → ⊥
not_read law format d J o t m h c s = cannot_read law format d J o t.follower m h.follows c s

-- the follower that reads next
reading : (was : Option FollowerView) (names : List Subject) → TrackReadsNext was names → (f : FollowerView)
    × (was ≡ Some f) × ReadsNamed f names
reading None names h = absurd h
reading (Some f) names h = (f, refl, h)

-- the objects that it asks for
asks_for : (format : Format) (d : Domain) (J : List Entry) (o : ℕ) (f : FollowerView) (names : List Subject)
    (objects : List ℕ) → MayTell format d (sets_after d J) → IsFollowed format d J o f → ReadsNamed f names
    → objects ≡ objects_by_names d (sets_after d J) names
    → Asks f (sets_after d J) (ToRead objects)
asks_for format d J o f names objects m h asks is =
    let by : objects_by_names f.domain (sets_after d J) names ≡ objects =
    ap (λ x. objects_by_names x (sets_after d J) names) h.domain ∙ sym is in
    subst (λ l. Asks f (sets_after d J) (ToRead l)) by
    (asks (sets_after d J) (told format d J o f (sets_after d J) h m))

-- readings of the objects that it reads may be shown
reads_these : ShownIsLegal → (format : Format) (d : Domain) (J : List Entry) (o : ℕ) (t : TrackView)
    (names : List Subject) (objects : List ℕ) → MayTell format d (sets_after d J) → IsTracked format d J o t
    → TrackReadsNext t.follower names → objects ≡ objects_by_names d (sets_after d J) names
    → ShowsNext format d J o (Saw (record { sets = sets_after d J; readings = any_readings objects }))
reads_these law format d J o t names objects m h r is =
    let f = reading t.follower names r in
    let follows_it = follows format d J o t.follower f.0 f.1 h.follows in
    let item : Item = Saw (record { sets = sets_after d J; readings = any_readings objects }) in
    (law format d J o f.0 item follows_it).1 ((asks_for format d J o f.0 names objects m follows_it f.2 is item
    refl).1 (ap ToRead (any_objects objects)))

pub is_read : ShownIsLegal → (format : Format) (d : Domain) (J : List Entry) (o : ℕ) (t : TrackView)
    (names : List Subject) (objects : List ℕ) → MayTell format d (sets_after d J) → IsTracked format d J o t
    → TrackReadsNext t.follower names → objects ≡ objects_by_names d (sets_after d J) names
    → ReadsSome format d J o
is_read law format d J o t names objects m h r is =
    (any_readings objects, reads_these law format d J o t names objects m h r is)

-- it may wait exactly if one of them is not clear
pub waits_for : WaitIsLegal → (format : Format) (d : Domain) (J : List Entry) (o : ℕ) (t : TrackView)
    (names : List Subject) (objects : List ℕ) → MayTell format d (sets_after d J) → IsTracked format d J o t
    → TrackReadsNext t.follower names → objects ≡ objects_by_names d (sets_after d J) names
    → WaitsToRead format d J o ↔ (are_clear J o objects ≡ false)
waits_for law format d J o t names objects m h r is =
    let f = reading t.follower names r in
    let follows_it = follows format d J o t.follower f.0 f.1 h.follows in
    law format d J o f.0 objects follows_it (asks_for format d J o f.0 names objects m follows_it f.2 is)

-- ---- how it ends

ends_one : DoneOnce → ParamsAreOne → (format : Format) (d : Domain) (J : List Entry) (o s z : ℕ)
    → BlockEnds format d J o s → BlockEnds format d J o z → s ≡ z
ends_one once params format d J o s z h g =
    let own_is = params format d o J h.own g.own h.params g.params in
    let done = subst (λ p. IsDone format d o J p h.env2 h.outcome) own_is h.done in
    let same = once format d o J g.own h.env2 g.env2 h.outcome g.outcome done g.done in
    h.state ∙ ap (state_left (state_of d o J)) same.1 ∙ sym g.state

block_means : (format : Format) (d : Domain) (J : List Entry) (o s : ℕ) → associated_at d o ≡ false
    → EndMeans format d J o (State s) → BlockEnds format d J o s
block_means format d J o s is h =
    subst (λ b. MatchBool b (is_some (running_at format d o J) ≡ true) (BlockEnds format d J o s)) is h

-- the block that ends so
ends_here : EndIsLegal → (format : Format) (d : Domain) (J : List Entry) (o : ℕ) (was now : TrackView) (s : ℕ)
    → IsTracked format d J o was → EndsNow was now s → BlockEnds format d J o s
ends_here law format d J o was now s h g =
    (law format d J o g.follower s (follows format d J o was.follower g.follower g.is h.follows)).1 (now.params, g.ends)

cannot_end : EndIsLegal → (format : Format) (d : Domain) (J : List Entry) (o s : ℕ) (was : Option FollowerView)
    → IsFollowing format d J o was → CannotEnd was → BlockEnds format d J o s → ⊥
cannot_end law format d J o s None h c e = let f = sym h ∙ e.done.runs in absurd (cc)
cannot_end law format d J o s (Some f) h c e = c s ((law format d J o f s h).0 e)

-- where the track cannot end, no end is meant
pub not_ended : EndIsLegal → (format : Format) (d : Domain) (J : List Entry) (o s : ℕ) (was : TrackView)
    → associated_at d o ≡ false → IsTracked format d J o was → CannotEnd was.follower
    → EndMeans format d J o (State s) → ⊥
not_ended law format d J o s was is h c m =
    cannot_end law format d J o s was.follower h.follows c (block_means format d J o s is m)

-- where it ends in a state, no other is meant
pub ended_elsewhere : EndIsLegal → DoneOnce → ParamsAreOne
    → (format : Format) (d : Domain) (J : List Entry) (o s z : ℕ) (was now : TrackView) → associated_at d o ≡ false
    → IsTracked format d J o was → EndsNow was now z → z ≢ s → EndMeans format d J o (State s) → ⊥
ended_elsewhere law once params format d J o s z was now is h g apart m =
    apart (ends_one once params format d J o z s (ends_here law format d J o was now z h g)
    (block_means format d J o s is m))

-- and this one is
pub is_ended : EndIsLegal → (format : Format) (d : Domain) (J : List Entry) (o s z : ℕ) (was now : TrackView)
    → associated_at d o ≡ false → IsTracked format d J o was → EndsNow was now z → z ≡ s
    → EndMeans format d J o (State s)
is_ended law format d J o s z was now is h g same =
    subst (λ b. MatchBool b (is_some (running_at format d o J) ≡ true) (BlockEnds format d J o s)) (sym is)
    (subst (BlockEnds format d J o) same (ends_here law format d J o was now z h g))

-- ---- the objects that are read are there

-- the objects of a shown reading are there, where the members by which they were found are
abbrev pub SawThere : Domain → Item → Type 0
SawThere d (Sent sets t v a args) = Unit {0}
SawThere d (HadNone sets set) = Unit {0}
SawThere d (Saw k) = AreThere d (members_in d k.sets) → All (IsObject d) (map object_read k.readings)
SawThere d (Turned add member set) = Unit {0}

abbrev pub EachThere : Domain → List Item → Type 0
EachThere d [] = Unit {0}
EachThere d (x ∷ xs) = SawThere d x × EachThere d xs

there_append : (d : Domain) (xs ys : List Item) → EachThere d xs → EachThere d ys → EachThere d (xs ++ ys)
there_append d [] ys h g = g
there_append d (x ∷ xs) ys h g = (h.0, there_append d xs ys h.1 g)

there_posts : (d : Domain) (sets : Sets) (posts : List Posted) → EachThere d (map (item_of sets) posts)
there_posts d sets [] = tt
there_posts d sets (p ∷ posts) = (tt, there_posts d sets posts)

there_sent : (d : Domain) (sets : Sets) (to : Target) (posts : List Posted) → EachThere d (sent_shown sets to posts)
there_sent d sets (ToOne o) [] = tt
there_sent d sets (ToMembers set) [] = (tt, tt)
there_sent d sets (ToOne o) (p ∷ posts) = there_posts d sets (p ∷ posts)
there_sent d sets (ToMembers set) (p ∷ posts) = there_posts d sets (p ∷ posts)

there_at : (d : Domain) (front : List Item) (x : Item) (back : List Item) → EachThere d (front ++ x ∷ back)
    → SawThere d x
there_at d [] x back h = h.0
there_at d (y ∷ front) x back h = there_at d front x back h.1

after_goes : (d : Domain) (rest : Program) (r1 : Outcome) (e1 : Env) (ms : List Move) (e2 : Env) (r : Outcome)
    → (Means d rest e1 ms e2 r → EachThere d (shown_moves ms))
    → Goes r1 e1 ms e2 r (Means d rest) → EachThere d (shown_moves ms)
after_goes d rest Through e1 ms e2 r go u = go u
after_goes d rest (To s) e1 ms e2 r go u = subst (λ l. EachThere d (shown_moves l)) (sym u.0) tt

-- so are those of all that a block shows that fits
all_there : (d : Domain) (c : Class) (given : List Param) (b : Program) (env : Env) (ms : List Move) (env2 : Env)
    (r : Outcome) → ProgramFits d c given b → Means d b env ms env2 r → EachThere d (shown_moves ms)
all_there d c given Nothing env ms env2 r f m = subst (λ l. EachThere d (shown_moves l)) (sym m.0) tt
all_there d c given (EndIn s) env ms env2 r f m = subst (λ l. EachThere d (shown_moves l)) (sym m.0) tt
all_there d c given (TerminateIn s) env ms env2 r f m = subst (λ l. EachThere d (shown_moves l)) (sym m.0) tt
all_there d c given (SetThen p x rest) env ms env2 r f m =
    subst (λ l. EachThere d (shown_moves l)) (sym m.1)
    (all_there d c given rest (with_set env p (value_of env x)) m.0 env2 r f.1 m.2)
all_there d c given (SendThen t a args rest) env ms env2 r f m =
    subst (λ l. EachThere d (shown_moves l)) (sym m.2)
    (there_append d (sent_shown m.0.sets m.0.to m.0.posts) (shown_moves m.1)
    (there_sent d m.0.sets m.0.to m.0.posts) (all_there d c given rest env m.1 env2 r f.1 m.4))
all_there d c given (SendNoneThen set rest) env ms env2 r f m =
    subst (λ l. EachThere d (shown_moves l)) (sym m.2)
    (there_append d (sent_shown m.0.sets m.0.to m.0.posts) (shown_moves m.1)
    (there_sent d m.0.sets m.0.to m.0.posts) (all_there d c given rest env m.1 env2 r f.2 m.4))
all_there d c given (IfThen t p q rest) env ms env2 r f m =
    let seen : SawThere d (Saw m.0) =
    λ there. subst (All (IsObject d)) (sym m.6) (objects_there d (members_in d m.0.sets) t there f.0) in
    let within : EachThere d (shown_moves m.1) =
    on_branch (EachThere d (shown_moves m.1)) (is_true_over (members_in d m.0.sets) m.0.readings t)
    (Means d p env m.1 m.3 m.4) (Means d q env m.1 m.3 m.4)
    (λ u. all_there d c given p env m.1 m.3 m.4 f.1 u) (λ u. all_there d c given q env m.1 m.3 m.4 f.2 u) m.7 in
    let after : EachThere d (shown_moves m.2) =
    after_goes d rest m.4 m.3 m.2 env2 r (λ u. all_there d c given rest m.3 m.2 env2 r f.3 u) m.8 in
    subst (λ l. EachThere d (shown_moves l)) (sym m.5) (
      seen,
      subst (EachThere d) (sym (shown-append m.1 m.2))
          (there_append d (shown_moves m.1) (shown_moves m.2) within after),
    )
all_there d c given (WaitThen names rest) env ms env2 r f m =
    let seen : SawThere d (Saw m.0) =
    λ there. subst (All (IsObject d)) (sym m.3) (objects_named_there d (members_in d m.0.sets) names there f.0) in
    subst (λ l. EachThere d (shown_moves l)) (sym m.2) (seen, all_there d c given rest env m.1 env2 r f.1 m.4)
all_there d c given (ChangeThen add member set rest) env ms env2 r f m =
    subst (λ l. EachThere d (shown_moves l)) (sym m.1) (tt, all_there d c given rest env m.0 env2 r f.1 m.2)

-- so are those of all that runs shows
block_there : (format : Format) (d : Domain) (a b : ℕ) (cs : Option Class) (env : Env) (ms : List Move)
    (env2 : Env) (r : Outcome) → IsSomeAnd cs (FitsClass d a b)
    → Means d (said_of_block format d (tree_of_block d b)) env ms env2 r → EachThere d (shown_moves ms)
block_there format d a b None env ms env2 r h m = absurd h
block_there format d a b (Some c) env ms env2 r h m = go (signature_in a c) h
  where
    go : (x : Option Signature) → IsSomeAnd x (TakesParams d c (tree_of_block d b)) → EachThere d (shown_moves ms)
    go None h = absurd h
    go (Some x) h = all_there d c x.params (said_of_block format d (tree_of_block d b)) env ms env2 r
        (said_fits format d c x.params (tree_of_block d b) h) m

run_there : (format : Format) (d : Domain) (o : ℕ) (J : List Entry) (own : List Value) (run : Running)
    (ms : List Move) (env2 : Env) (r : Outcome) → IsSound d → running_at format d o J ≡ Some run
    → Means d run.program (env_of own run) ms env2 r → EachThere d (shown_moves ms)
run_there format d o J own run ms env2 r sound runs m = go (open_at o J) runs
  where
    block : (l : Letter) (b : Option ℕ) → block_at d o (state_of d o J) l.action ≡ b
        → option_map (run_with l.args) (option_map (said_of_block format d) (option_map (tree_of_block d) b)) ≡ Some run
        → EachThere d (shown_moves ms)
    block l None is e = absurd (cc e)
    block l (Some b) is e =
        let fits = this_block_fits d o (state_of d o J) l.action b (class_fits d o sound) (sym is) in
        let same : run_with l.args (said_of_block format d (tree_of_block d b)) ≡ run =
        same_some (run_with l.args (said_of_block format d (tree_of_block d b))) run e in
        block_there format d l.action b (class_at d o) (env_of own run) ms env2 r fits.1
        (subst (λ x. Means d x.program (env_of own run) ms env2 r) (sym same) m)

    go : (l : Option Letter) → option_and_then (running_in format d o J) l ≡ Some run → EachThere d (shown_moves ms)
    go None e = absurd (cc e)
    go (Some l) e = block l (block_at d o (state_of d o J) l.action) refl e

-- what may be shown next reads objects that are there, where sets have such members
shown_there : (format : Format) (d : Domain) (J : List Entry) (o : ℕ) (item : Item) → IsSound d
    → ShowsNext format d J o item → SawThere d item
shown_there format d J o item sound s =
    let each = run_there format d o J s.own s.run s.shows.0 s.shows.1 s.shows.2 sound s.runs s.shows.4 in
    let front = shown_of d o J in
    there_at d front item s.shows.3 (subst (EachThere d) (s.shows.5 ∙ append_assoc front (item ∷ []) s.shows.3) each)

-- the objects that a track reads next are there
pub reads_there : ShownIsLegal → (format : Format) (d : Domain) (J : List Entry) (o : ℕ) (t : TrackView)
    (names : List Subject) (objects : List ℕ) → IsSound d → AreOf d (sets_after d J)
    → MayTell format d (sets_after d J) → IsTracked format d J o t
    → TrackReadsNext t.follower names → objects ≡ objects_by_names d (sets_after d J) names → All (IsObject d) objects
reads_there law format d J o t names objects sound are m h r is =
    subst (All (IsObject d)) (any_objects objects)
    (shown_there format d J o (Saw (record { sets = sets_after d J; readings = any_readings objects })) sound
    (reads_these law format d J o t names objects m h r is) (λ set. (are set).1))
