-- How a follower continues with readings.
use Rattle.std.proofs.Common.{◌≡◌, ◌∙◌, arith, length, sym, ap, refl, subst, ℕ, List, [], ◌∷◌, ◌++◌, append-nil, map, Some, None, Option}
use Rattle.std.specs.Prelude.{IfSome, IsSomeAnd}
use Rattle.sml_domain.specs.Domain.{Domain}
use Rattle.smi_journal_entries.specs.Sets.{AreOf, Sets}
use Rattle.smi_journal_entries.specs.Words.{Item, Saw}
use Rattle.smi_journal_entries.specs.declared.journal.Format.{Format}
use Rattle.smi_journal_entries.specs.declared.journal.Format.TheVariants.{One, Two}
use Rattle.smi_meaning.specs.Items.{Post, item_of}
use Rattle.smi_meaning.specs.Meaning.{Move, DidRead}
use Rattle.smi_meaning.specs.Shown.{Question, ToPost, ToHave, ToRead, ToChange, shown_moves}
use Rattle.smi_meaning.proofs.Showing.{shown-append}
use Rattle.smi_interp.specs.declared.contact.Contact.{Contact}
use Rattle.smi_interp.specs.declared.contact.Contact.TheVariants as named
use Rattle.smi_interp.specs.Expanded.{posts_in, objects_by_names}
use Rattle.smi_interp.specs.Task.{TaskView, LeftNames, WantsStates, sight_waiting, with_states}
use Rattle.sml_domain.specs.Program.{Subject, Target, ToOne, ToMembers}
use Rattle.smi_audit_follower.specs.declared.follower.Begun.{Begun}
use Rattle.smi_audit_follower.specs.Following.{AreTellable, Asks, MayTell, MayShow, said_moves, with_item}
use Rattle.smi_audit_follower.specs.Followers.{IsInStep, IsPosting, names_asked, objects_asked, seen_by}
use Rattle.smi_audit_follower.specs.Passing.{ContactStands, fresh_of}
use Rattle.smi_audit_follower.specs.Expecting.{send_question}
use Rattle.smi_audit_follower.proofs.Nexts.{asked_at, asks_first, next_post}
use Rattle.smi_audit_follower.proofs.Shows.{end_ends, ends_silent, read_asks, read_shows}
use Rattle.smi_audit_follower.proofs.Ops.{never_none, same, stood_at}
use Rattle.sml_domain.specs.Truth.{Reading}
use Rattle.smi_meaning.specs.Conditions.{object_read}
use Rattle.smi_interp.specs.Turn.{readings_of}
use Rattle.smi_audit_follower.specs.Matching.{reading_state}
use Rattle.smi_audit_follower.proofs.Sizes.{said_more, told_more}

-- only a contact that asks for objects asks that
only_read : (d : Domain) (sets : Sets) (contact : Contact) (q : Question) (os : List ℕ) → asked_at d sets contact ≡ Some q → ToRead os ≡ q → objects_asked d sets (Some contact) ≡ Some os
only_read d sets (named.Local p v) q os e is = absurd (cc e)
only_read d sets (named.End s) q os e is = absurd (cc e)
only_read d sets (named.Change a p t) q os e is = let k : ToRead os ≡ ToChange a p t = is ∙ sym (same q (ToChange a p t) e) in absurd (cc k)
only_read d sets (named.Read names) q os e is =
    let k : ToRead os ≡ ToRead (objects_by_names d sets names) = is ∙ sym (same q (ToRead (objects_by_names d sets names)) e) in
    let x : objects_by_names d sets names ≡ os = cc k in
    ap (λ l. Some l) x
only_read d sets (named.Send w) q os e is = go w.target (posts_in d sets w) e
  where
    go : (to : Target) (posts : List Post) → send_question to posts ≡ Some q → None ≡ Some os
    go (ToOne x) [] e = absurd (cc e)
    go (ToMembers x) [] e = let k : ToRead os ≡ ToHave x = is ∙ sym (same q (ToHave x) e) in absurd (cc k)
    go (ToOne x) (p ∷ ps) e = let k : ToRead os ≡ ToPost p = is ∙ sym (same q (ToPost p) e) in absurd (cc k)
    go (ToMembers x) (p ∷ ps) e = let k : ToRead os ≡ ToPost p = is ∙ sym (same q (ToPost p) e) in absurd (cc k)

-- where readings may be shown their objects wait to be read
pub read_waits : (format : Format) (t : TaskView) (declared : Sets) (begun : Option Begun) (sets : Sets) (rs : List Reading) → IsInStep format t declared begun → IfSome t.pending (LeftNames t) → MayTell format t.domain sets
    → MayShow (seen_by format t begun) (Saw (record { sets = sets; readings = rs })) → objects_asked t.domain sets t.pending ≡ Some (map object_read rs)
read_waits format t declared (Some b) sets rs s names tells m =
    let k : IsPosting format t b = s.sending in
    let n = next_post format t k.wanted b.members b.posts.items b.verdicts.items (Saw (record { sets = sets; readings = rs })) (stood_at format t (named.Send k.wanted) s.told names k.waits) k.tells k.posts k.some k.more m in
    let e : Saw (record { sets = sets; readings = rs }) ≡ item_of b.members n.0 = n.1 in
    absurd (cc e)
read_waits format t declared None sets rs s names tells m = go t.pending refl s.stands
  where
    ask : (contact : Contact) → t.pending ≡ Some contact → ContactStands format t.domain (Some contact) → (q : Option Question) → asked_at t.domain sets contact ≡ q → objects_asked t.domain sets (Some contact) ≡ Some (map object_read rs)
    ask contact is stands (Some q) e =
        let a = asks_first format t contact sets q (stood_at format t contact s.told names is) stands tells e in
        only_read t.domain sets contact q (map object_read rs) e ((a (Saw (record { sets = sets; readings = rs })) refl).0 m)
    ask (named.Local p v) is stands None e = absurd stands
    ask (named.End x) is stands None e =
        absurd (ends_silent (fresh_of format t) _ t.params (Saw (record { sets = sets; readings = rs })) (end_ends format t x [] (stood_at format t (named.End x) s.told names is)) m)
    ask (named.Read ns) is stands None e = absurd (cc e)
    ask (named.Change a p z) is stands None e = absurd (cc e)
    ask (named.Send w) is stands None e = absurd (never_none format t t.domain sets w (stood_at format t (named.Send w) s.told names is) (posts_in t.domain sets w) refl e)

    go : (p : Option Contact) → t.pending ≡ p → ContactStands format t.domain p → objects_asked t.domain sets t.pending ≡ Some (map object_read rs)
    go None is stands = absurd stands
    go (Some contact) is stands = ap (objects_asked t.domain sets) is ∙ ask contact is stands (asked_at t.domain sets contact) refl

-- objects that wait to be read are those of the names that wait
pub record Reads (d : Domain) (sets : Sets) (p : Option Contact) (os : List ℕ) : Type 0 where
  pub names : List Subject
  pub waits : p ≡ Some (named.Read names)
  pub are : objects_by_names d sets names ≡ os

pub reads_of : (d : Domain) (sets : Sets) (p : Option Contact) (os : List ℕ) → objects_asked d sets p ≡ Some os → Reads d sets p os
reads_of d sets None os e = absurd (cc e)
reads_of d sets (Some (named.Local p v)) os e = absurd (cc e)
reads_of d sets (Some (named.Send w)) os e = absurd (cc e)
reads_of d sets (Some (named.Change a o z)) os e = absurd (cc e)
reads_of d sets (Some (named.End o)) os e = absurd (cc e)
reads_of d sets (Some (named.Read names)) os e = record { names = names; waits = refl; are = cc e }

readings_same : (rs : List Reading) → readings_of (map object_read rs) (map reading_state rs) ≡ rs
readings_same [] = refl
readings_same (r ∷ rs) = ap (λ l. r ∷ l) (readings_same rs)

length-states : (rs : List Reading) → length (map reading_state rs) ≡ length (map object_read rs)
length-states [] = refl
length-states (r ∷ rs) = let h = length-states rs in omega (arith, h)

pub read_wants : (t : TaskView) (sets : Sets) (rs : List Reading) (states : List ℕ) → states ≡ map reading_state rs → objects_asked t.domain sets t.pending ≡ Some (map object_read rs) → IsSomeAnd t.pending (WantsStates t.domain sets (length states))
read_wants t sets rs states same e =
    let r = reads_of t.domain sets t.pending (map object_read rs) e in
    let n : length states ≡ length (objects_by_names t.domain sets r.names) = ap (λ (l : List ℕ). length l) same ∙ length-states rs ∙ ap (λ (l : List ℕ). length l) (sym r.are) in
    subst (λ p. IsSomeAnd p (WantsStates t.domain sets (length states))) (sym r.waits) n

pub read_may : (format : Format) (t : TaskView) (declared : Sets) (begun : Option Begun) (sets : Sets) (rs : List Reading) → IsInStep format t declared begun → IfSome t.pending (LeftNames t) → MayTell format t.domain sets
    → objects_asked t.domain sets t.pending ≡ Some (map object_read rs) → MayShow (seen_by format t begun) (Saw (record { sets = sets; readings = rs }))
read_may format t declared None sets rs s names tells e =
    let r = reads_of t.domain sets t.pending (map object_read rs) e in
    read_shows format t r.names sets [] rs (stood_at format t (named.Read r.names) s.told names r.waits) tells (sym r.are)
read_may format t declared (Some b) sets rs s names tells e =
    let k : IsPosting format t b = s.sending in
    let r = reads_of t.domain sets t.pending (map object_read rs) e in
    let x : Some (named.Send k.wanted) ≡ Some (named.Read r.names) = sym k.waits ∙ r.waits in
    absurd (cc x)

-- a task that was told the states of readings
told_task : (t : TaskView) (sets : Sets) (rs : List Reading) (states : List ℕ) → states ≡ map reading_state rs → objects_asked t.domain sets t.pending ≡ Some (map object_read rs)
    → with_states t states sets ≡ record t { pending = None; turn = record t.turn { moves = t.turn.moves ++ DidRead (record { sets = sets; readings = rs }) ∷ [] } }
told_task t sets rs states same e =
    let r = reads_of t.domain sets t.pending (map object_read rs) e in
    ap (λ p. record t { pending = None; turn = record t.turn { moves = t.turn.moves ++ DidRead (sight_waiting t.domain sets states p) ∷ [] } }) r.waits
    ∙ ap (λ xs. record t { pending = None; turn = record t.turn { moves = t.turn.moves ++ DidRead (record { sets = sets; readings = xs }) ∷ [] } })
    (ap (λ os. readings_of os states) r.are ∙ ap (readings_of (map object_read rs)) same ∙ readings_same rs)

pub unchanged_if : (format : Format) (d : Domain) (sets : Sets) → MayTell format d sets → format ≡ One → MayTell One d sets
unchanged_if One d sets tells e = tells
unchanged_if Two d sets tells e = absurd (cc e)

pub read_told : (format : Format) (t u : TaskView) (sets : Sets) (rs : List Reading) (states : List ℕ) → AreTellable format t.domain t.turn.moves → MayTell format t.domain sets → states ≡ map reading_state rs
    → objects_asked t.domain sets t.pending ≡ Some (map object_read rs) → u ≡ with_states t states sets → AreTellable format u.domain u.turn.moves
read_told format t u sets rs states told tells same e is =
    subst (λ (x : TaskView). AreTellable format x.domain x.turn.moves) (sym (is ∙ told_task t sets rs states same e))
    (told_more format t.domain t.turn.moves (DidRead (record { sets = sets; readings = rs })) told (unchanged_if format t.domain sets tells))

said_read : (format : Format) (sets : Sets) (rs : List Reading) → shown_moves (said_moves format (DidRead (record { sets = sets; readings = rs }) ∷ [])) ≡ Saw (record { sets = sets; readings = rs }) ∷ []
said_read One sets rs = refl
said_read Two sets rs = refl

pub read_seen : (format : Format) (t u : TaskView) (declared : Sets) (begun : Option Begun) (sets : Sets) (rs : List Reading) (states : List ℕ) → IsInStep format t declared begun → states ≡ map reading_state rs
    → objects_asked t.domain sets t.pending ≡ Some (map object_read rs) → u ≡ with_states t states sets → fresh_of format u ≡ with_item (seen_by format t begun) (Saw (record { sets = sets; readings = rs }))
read_seen format t u declared (Some b) sets rs states s same e is =
    let k : IsPosting format t b = s.sending in
    let r = reads_of t.domain sets t.pending (map object_read rs) e in
    let x : Some (named.Send k.wanted) ≡ Some (named.Read r.names) = sym k.waits ∙ r.waits in
    absurd (cc x)
read_seen format t u declared None sets rs states s same e is =
    let S = shown_moves (said_moves format t.turn.moves) in
    let m : Move = DidRead (record { sets = sets; readings = rs }) in
    let item : Item = Saw (record { sets = sets; readings = rs }) in
    let items : shown_moves (said_moves format (t.turn.moves ++ m ∷ [])) ++ [] ≡ (S ++ []) ++ item ∷ [] =
    append-nil (shown_moves (said_moves format (t.turn.moves ++ m ∷ []))) ∙ ap shown_moves (said_more format t.turn.moves m)
    ∙ shown-append (said_moves format t.turn.moves) (said_moves format (m ∷ [])) ∙ ap (λ l. S ++ l) (said_read format sets rs) ∙ ap (λ l. l ++ item ∷ []) (sym (append-nil S)) in
    ap (fresh_of format) (is ∙ told_task t sets rs states same e) ∙ ap (λ l. record (fresh_of format t) { shown = l }) items

-- what a view tells of its task
pub tells_of : (format : Format) (t : TaskView) (begun : Option Begun) (sets : Sets) → MayTell (seen_by format t begun).format (seen_by format t begun).domain sets → MayTell format t.domain sets
tells_of format t None sets h = h
tells_of format t (Some b) sets h = h

pub are_of_view : (format : Format) (t : TaskView) (begun : Option Begun) (sets : Sets) → AreOf (seen_by format t begun).domain sets → AreOf t.domain sets
are_of_view format t None sets h = h
are_of_view format t (Some b) sets h = h

-- names that wait are what the action reads, at any members
pub read_asked : (format : Format) (t : TaskView) (declared : Sets) (begun : Option Begun) (names : List Subject) → IsInStep format t declared begun → IfSome t.pending (LeftNames t) → t.pending ≡ Some (named.Read names)
    → (sets : Sets) → MayTell (seen_by format t begun).format (seen_by format t begun).domain sets → Asks (seen_by format t begun) sets (ToRead (objects_by_names (seen_by format t begun).domain sets names))
read_asked format t declared None names s left is sets tells = read_asks format t names sets [] (stood_at format t (named.Read names) s.told left is) tells
read_asked format t declared (Some b) names s left is sets tells =
    let k : IsPosting format t b = s.sending in
    let x : Some (named.Send k.wanted) ≡ Some (named.Read names) = sym k.waits ∙ is in
    absurd (cc x)

-- and where none wait nothing is read
pub reads_none : (format : Format) (t : TaskView) (declared : Sets) (begun : Option Begun) → IsInStep format t declared begun → IfSome t.pending (LeftNames t) → ((names : List Subject) → t.pending ≡ Some (named.Read names) → ⊥)
    → (sets : Sets) (rs : List Reading) → MayTell (seen_by format t begun).format (seen_by format t begun).domain sets → MayShow (seen_by format t begun) (Saw (record { sets = sets; readings = rs })) → ⊥
reads_none format t declared begun s left other sets rs tells m =
    let r = reads_of t.domain sets t.pending (map object_read rs) (read_waits format t declared begun sets rs s left (tells_of format t begun sets tells) m) in
    other r.names r.waits

pub named_waits : (p : Option Contact) (names : List Subject) → names_asked p ≡ Some names → p ≡ Some (named.Read names)
named_waits None names e = absurd (cc e)
named_waits (Some (named.Local q v)) names e = absurd (cc e)
named_waits (Some (named.Send w)) names e = absurd (cc e)
named_waits (Some (named.Change a o z)) names e = absurd (cc e)
named_waits (Some (named.End o)) names e = absurd (cc e)
named_waits (Some (named.Read ns)) names e = let k : ns ≡ names = cc e in ap (λ x. Some (named.Read x)) k

pub none_waits : (p : Option Contact) → names_asked p ≡ None → (names : List Subject) → p ≡ Some (named.Read names) → ⊥
none_waits p e names is = let k : Some names ≡ None = sym (ap names_asked is) ∙ e in cc k
