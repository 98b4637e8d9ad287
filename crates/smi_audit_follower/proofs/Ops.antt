-- How a follower continues.
use Rattle.std.proofs.Common.{◌≡◌, ◌<◌, ◌∙◌, arith, length, sym, ap, refl, subst, ℕ, Bool, List, [], ◌∷◌, ◌++◌, append-nil, Some, None, Option}
use Rattle.std.specs.Prelude.{IfSome, IsSomeAnd, slice_get, zero, suc}
use Rattle.sml_domain.specs.declared.value.Value.{Value}
use Rattle.sml_domain.specs.Domain.{Domain}
use Rattle.smi_journal_entries.specs.Sets.{Sets, unchanged}
use Rattle.smi_journal_entries.specs.Words.{Turned}
use Rattle.smi_journal_entries.specs.declared.journal.Format.{Format}
use Rattle.smi_journal_entries.specs.declared.journal.Format.TheVariants.{One, Two}
use Rattle.smi_journal_entries.proofs.Changing.{begin_declared}
use Rattle.smi_meaning.specs.Items.{Post, item_of}
use Rattle.smi_meaning.specs.Meaning.{DidChange, Wanted, state_left}
use Rattle.smi_meaning.specs.Shown.{Question, ToPost, ToHave, ToRead, ToChange, shown_moves}
use Rattle.smi_meaning.proofs.Showing.{shown-append}
use Rattle.smi_interp.specs.declared.contact.Contact.{Contact}
use Rattle.smi_interp.specs.declared.contact.Contact.TheVariants as named
use Rattle.smi_interp.specs.Expanded.{posts_in, objects_by_names}
use Rattle.smi_interp.specs.Task.{TaskView, env_now, outcome_of, LeftNames, WantsChange, change_waiting, task_with_change}
use Rattle.sml_domain.specs.Program.{Target, ToOne, ToMembers}
use Rattle.smi_audit_follower.specs.declared.follower.Begun.{Begun}
use Rattle.smi_audit_follower.specs.Following.{AreTellable, EndsIn, MayTell, MayShow, said_moves, seen_of, with_item}
use Rattle.smi_audit_follower.specs.Followers.{IsInStep, IsPosting, seen_by}
use Rattle.smi_audit_follower.specs.Passing.{ContactStands, end_of, fresh_of}
use Rattle.smi_audit_follower.specs.Expecting.{send_question}
use Rattle.smi_audit_follower.proofs.Nexts.{asked_at, asks_first, next_post, to_a_set}
use Rattle.smi_audit_follower.proofs.Shows.{Stood, asks_on, change_shows, end_ends, ends_silent, send_shows, unjudged}
use Rattle.smi_audit_follower.proofs.Sizes.{said_more, told_more}

-- the contact that waits is the first of what is left
pub stood_at : (format : Format) (t : TaskView) (contact : Contact) → AreTellable format t.domain t.turn.moves → IfSome t.pending (LeftNames t) → t.pending ≡ Some contact → Stood format t contact
stood_at format t contact told names is =
    let l : LeftNames t contact = subst (λ p. IfSome p (LeftNames t)) is names in
    record { left = l.left; leads = l.leads; asks = l.asks; told = told }

pub may_tell : (format : Format) (d : Domain) (sets : Sets) → sets ≡ unchanged d → MayTell format d sets
may_tell One d sets is = subst (MayTell One d) (sym is) (begin_declared d)
may_tell Two d sets is = tt

pub same : (q r : Question) → Some r ≡ Some q → r ≡ q
same q r e = cc e

-- only a contact that asks for a change asks that
only_change : (d : Domain) (sets : Sets) (contact : Contact) (q : Question) (add : Bool) (o set : ℕ) → asked_at d sets contact ≡ Some q → ToChange add o set ≡ q → contact ≡ named.Change add o set
only_change d sets (named.Local p v) q add o set e is = absurd (cc e)
only_change d sets (named.End s) q add o set e is = absurd (cc e)
only_change d sets (named.Read names) q add o set e is =
    let k : ToChange add o set ≡ ToRead (objects_by_names d sets names) = is ∙ sym (same q (ToRead (objects_by_names d sets names)) e) in
    absurd (cc k)
only_change d sets (named.Change a p t) q add o set e is =
    let k : ToChange add o set ≡ ToChange a p t = is ∙ sym (same q (ToChange a p t) e) in
    let x : a ≡ add = cc k in
    let y : p ≡ o = cc k in
    let z : t ≡ set = cc k in
    (λ i. named.Change (x i) (y i) (z i))
only_change d sets (named.Send w) q add o set e is = go w.target (posts_in d sets w) e
  where
    go : (to : Target) (posts : List Post) → send_question to posts ≡ Some q → named.Send w ≡ named.Change add o set
    go (ToOne x) [] e = absurd (cc e)
    go (ToMembers x) [] e = let k : ToChange add o set ≡ ToHave x = is ∙ sym (same q (ToHave x) e) in absurd (cc k)
    go (ToOne x) (p ∷ ps) e = let k : ToChange add o set ≡ ToPost p = is ∙ sym (same q (ToPost p) e) in absurd (cc k)
    go (ToMembers x) (p ∷ ps) e = let k : ToChange add o set ≡ ToPost p = is ∙ sym (same q (ToPost p) e) in absurd (cc k)

some_question : (to : Target) (p : Post) (ps : List Post) → send_question to (p ∷ ps) ≡ None → ⊥
some_question (ToOne o) p ps e = cc e
some_question (ToMembers set) p ps e = cc e

-- a send that waits asks something
pub never_none : (format : Format) (t : TaskView) (d : Domain) (sets : Sets) (w : Wanted) → Stood format t (named.Send w) → (posts : List Post) → posts_in d sets w ≡ posts → send_question w.target posts ≡ None → ⊥
never_none format t d sets w s [] is e =
    let set = to_a_set d s.left (env_now t) sets w s.asks is in
    let f : Some (ToHave set.0) ≡ None = sym (ap (λ to. send_question to []) set.1) ∙ e in
    cc f
never_none format t d sets w s (p ∷ ps) is e = some_question w.target p ps e

-- where a change may be shown it waits
pub change_waits : (format : Format) (t : TaskView) (declared : Sets) (begun : Option Begun) (add : Bool) (o set : ℕ) → IsInStep format t declared begun → IfSome t.pending (LeftNames t)
    → MayShow (seen_by format t begun) (Turned add o set) → t.pending ≡ Some (named.Change add o set)
change_waits format t declared (Some b) add o set s names m =
    let k : IsPosting format t b = s.sending in
    let n = next_post format t k.wanted b.members b.posts.items b.verdicts.items (Turned add o set) (stood_at format t (named.Send k.wanted) s.told names k.waits) k.tells k.posts k.some k.more m in
    let e : Turned add o set ≡ item_of b.members n.0 = n.1 in
    absurd (cc e)
change_waits format t declared None add o set s names m = go t.pending refl s.stands
  where
    ask : (contact : Contact) → t.pending ≡ Some contact → ContactStands format t.domain (Some contact) → (q : Option Question) → asked_at t.domain declared contact ≡ q → t.pending ≡ Some (named.Change add o set)
    ask contact is stands (Some q) e =
        let a = asks_first format t contact declared q (stood_at format t contact s.told names is) stands (may_tell format t.domain declared s.declared_are) e in
        is ∙ ap (λ x. Some x) (only_change t.domain declared contact q add o set e ((a (Turned add o set) tt).0 m))
    ask (named.Local p v) is stands None e = absurd stands
    ask (named.End x) is stands None e = absurd (ends_silent (fresh_of format t) _ t.params (Turned add o set) (end_ends format t x [] (stood_at format t (named.End x) s.told names is)) m)
    ask (named.Read names) is stands None e = absurd (cc e)
    ask (named.Change a p z) is stands None e = absurd (cc e)
    ask (named.Send w) is stands None e = absurd (never_none format t t.domain declared w (stood_at format t (named.Send w) s.told names is) (posts_in t.domain declared w) refl e)

    go : (p : Option Contact) → t.pending ≡ p → ContactStands format t.domain p → t.pending ≡ Some (named.Change add o set)
    go None is stands = absurd stands
    go (Some contact) is stands = ask contact is stands (asked_at t.domain declared contact) refl

-- where it waits it may be shown
pub change_may : (format : Format) (t : TaskView) (declared : Sets) (begun : Option Begun) (add : Bool) (o set : ℕ) → IsInStep format t declared begun → IfSome t.pending (LeftNames t) → t.pending ≡ Some (named.Change add o set)
    → MayShow (seen_by format t begun) (Turned add o set)
change_may format t declared None add o set s names is = change_shows format t add o set [] (stood_at format t (named.Change add o set) s.told names is)
change_may format t declared (Some b) add o set s names is =
    let k : IsPosting format t b = s.sending in
    let e : Some (named.Send k.wanted) ≡ Some (named.Change add o set) = sym k.waits ∙ is in
    absurd (cc e)

pub change_wants : (t : TaskView) (add : Bool) (o set : ℕ) → t.pending ≡ Some (named.Change add o set) → IsSomeAnd t.pending WantsChange
change_wants t add o set is = subst (λ p. IsSomeAnd p WantsChange) (sym is) tt

-- a task that was told that the set was changed
changed_task : (t : TaskView) (add : Bool) (o set : ℕ) → t.pending ≡ Some (named.Change add o set) → task_with_change t ≡ record t { pending = None; turn = record t.turn { moves = t.turn.moves ++ DidChange add o set ∷ [] } }
changed_task t add o set is = ap (λ p. record t { pending = None; turn = record t.turn { moves = t.turn.moves ++ change_waiting p ∷ [] } }) is

pub change_told : (format : Format) (t u : TaskView) (add : Bool) (o set : ℕ) → AreTellable format t.domain t.turn.moves → t.pending ≡ Some (named.Change add o set) → u ≡ task_with_change t → AreTellable format u.domain u.turn.moves
change_told format t u add o set told is e =
    subst (λ (x : TaskView). AreTellable format x.domain x.turn.moves) (sym (e ∙ changed_task t add o set is)) (told_more format t.domain t.turn.moves (DidChange add o set) told (λ one. tt))

said_change : (format : Format) (add : Bool) (o set : ℕ) → shown_moves (said_moves format (DidChange add o set ∷ [])) ≡ Turned add o set ∷ []
said_change One add o set = refl
said_change Two add o set = refl

-- has shown the change
pub change_seen : (format : Format) (t u : TaskView) (declared : Sets) (begun : Option Begun) (add : Bool) (o set : ℕ) → IsInStep format t declared begun → t.pending ≡ Some (named.Change add o set) → u ≡ task_with_change t
    → fresh_of format u ≡ with_item (seen_by format t begun) (Turned add o set)
change_seen format t u declared (Some b) add o set s is e =
    let k : IsPosting format t b = s.sending in
    let c : Some (named.Send k.wanted) ≡ Some (named.Change add o set) = sym k.waits ∙ is in
    absurd (cc c)
change_seen format t u declared None add o set s is e =
    let S = shown_moves (said_moves format t.turn.moves) in
    let items : shown_moves (said_moves format (t.turn.moves ++ DidChange add o set ∷ [])) ++ [] ≡ (S ++ []) ++ Turned add o set ∷ [] =
    append-nil (shown_moves (said_moves format (t.turn.moves ++ DidChange add o set ∷ []))) ∙ ap shown_moves (said_more format t.turn.moves (DidChange add o set))
    ∙ shown-append (said_moves format t.turn.moves) (said_moves format (DidChange add o set ∷ [])) ∙ ap (λ l. S ++ l) (said_change format add o set) ∙ ap (λ l. l ++ Turned add o set ∷ []) (sym (append-nil S)) in
    ap (fresh_of format) (e ∙ changed_task t add o set is) ∙ ap (λ l. record (fresh_of format t) { shown = l }) items

-- ---- ends

-- where the end waits the action ends so
pub end_so : (format : Format) (t : TaskView) (declared : Sets) (begun : Option Begun) (s : ℕ) → IsInStep format t declared begun → IfSome t.pending (LeftNames t) → end_of t.turn.state t.pending ≡ Some s
    → EndsIn (seen_by format t begun) s t.params
end_so format t declared (Some b) s sound names e =
    let k : IsPosting format t b = sound.sending in
    let none : None ≡ Some s = ap (end_of t.turn.state) (sym k.waits) ∙ e in
    absurd (cc none)
end_so format t declared None s sound names e = go t.pending refl e
  where
    go : (p : Option Contact) → t.pending ≡ p → end_of t.turn.state p ≡ Some s → EndsIn (fresh_of format t) s t.params
    go None is e = absurd (cc e)
    go (Some (named.Local p v)) is e = absurd (cc e)
    go (Some (named.Send w)) is e = absurd (cc e)
    go (Some (named.Read names)) is e = absurd (cc e)
    go (Some (named.Change a o set)) is e = absurd (cc e)
    go (Some (named.End o)) is e =
        let k : state_left t.turn.state (outcome_of o) ≡ s = cc e in
        subst (λ x. EndsIn (fresh_of format t) x t.params) k (end_ends format t o [] (stood_at format t (named.End o) sound.told names is))

there : (posts : List Post) (n : ℕ) → n < length posts → (p : Post) × (slice_get posts n ≡ Some p)
there [] n h = absurd (omega (arith, h))
there (p ∷ ps) zero h = (p, refl)
there (p ∷ ps) (suc n) h =
    let less : n < length ps = omega (arith, h) in
    there ps n less

-- and elsewhere it does not end
pub end_not : (format : Format) (t : TaskView) (declared : Sets) (begun : Option Begun) (s : ℕ) (own2 : List Value) → IsInStep format t declared begun → IfSome t.pending (LeftNames t) → end_of t.turn.state t.pending ≡ None
    → EndsIn (seen_by format t begun) s own2 → ⊥
end_not format t declared (Some b) s own2 sound names e h =
    let k : IsPosting format t b = sound.sending in
    let p = there b.posts.items (length b.verdicts.items) k.more in
    let at : slice_get (posts_in t.domain b.members k.wanted) (length b.verdicts.items) ≡ Some p.0 = ap (λ l. slice_get l (length b.verdicts.items)) (sym k.posts) ∙ p.1 in
    let m = send_shows format t k.wanted b.members b.verdicts.items (unjudged p.0) (stood_at format t (named.Send k.wanted) sound.told names k.waits) k.tells at in
    ends_silent (seen_by format t (Some b)) s own2 (item_of b.members (unjudged p.0)) h
    (subst (λ ps. MayShow (seen_of format t b.members ps b.verdicts.items) (item_of b.members (unjudged p.0))) (sym k.posts) m)
end_not format t declared None s own2 sound names e h = go t.pending refl sound.stands e
  where
    ask : (contact : Contact) → t.pending ≡ Some contact → ContactStands format t.domain (Some contact) → end_of t.turn.state (Some contact) ≡ None → (q : Option Question) → asked_at t.domain declared contact ≡ q → ⊥
    ask contact is stands e (Some q) a =
        asks_on (fresh_of format t) declared q s own2 (asks_first format t contact declared q (stood_at format t contact sound.told names is) stands (may_tell format t.domain declared sound.declared_are) a) h
    ask (named.Local p v) is stands e None a = stands
    ask (named.End x) is stands e None a = cc e
    ask (named.Read names) is stands e None a = cc a
    ask (named.Change c p z) is stands e None a = cc a
    ask (named.Send w) is stands e None a = never_none format t t.domain declared w (stood_at format t (named.Send w) sound.told names is) (posts_in t.domain declared w) refl a

    go : (p : Option Contact) → t.pending ≡ p → ContactStands format t.domain p → end_of t.turn.state p ≡ None → ⊥
    go None is stands e = stands
    go (Some contact) is stands e = ask contact is stands e (asked_at t.domain declared contact) refl
