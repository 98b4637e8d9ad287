-- What becomes of a task that is handed to the board.
use Rattle.std.proofs.Common.{◌≡◌, ◌≤◌, ℕ, Bool, true, false, cond, List, [], ◌∷◌, ◌++◌, ◌-◌, length, length-append, Option, Some, None, map, IfSome, Ok, Err, refl, sym, ap, ◌∙◌, subst, arith}
use Rattle.std.specs.Prelude.{slice_set, MatchBool, option_map}
use Rattle.sml_domain.specs.Domain.{Domain}
use Rattle.sml_domain.specs.Program.{Subject}
use Rattle.smi_journal_entries.specs.declared.entry.ActionEnd.TheVariants.{State}
use Rattle.smi_journal_entries.specs.declared.entry.Entry.{Entry}
use Rattle.smi_journal_entries.specs.declared.entry.Entry.TheVariants as entry
use Rattle.smi_journal_entries.specs.Words.{state_of, waits_at, change_entry}
use Rattle.smi_meaning.specs.EntryLaws.{are_clear, reading_of}
use Rattle.smi_meaning.specs.Meaning.{DidRead, DidSend, state_left}
use Rattle.smi_board.specs.Reading.{states_now}
use Rattle.smi_journal_entries.specs.Sets.{Sets, sets_after}
use Rattle.smi_interp.specs.declared.contact.Contact.{Contact}
use Rattle.smi_interp.specs.declared.contact.Contact.TheVariants as named
use Rattle.smi_interp.specs.Expanded.{Send, expanded, objects_by_names, posts_in}
use Rattle.smi_interp.specs.Turn.{sending_of, sight_of}
use Rattle.smi_interp.specs.Task.{TaskView, IsNextContact, LeftAsks, LeftNames, awaited, change_waiting, outcome_of, sending_waiting, sight_waiting, task_with_change, with_states, with_verdicts}
use Rattle.smi_mail_plain.specs.Boxes.{PlainView, taken_at, sent_at}
use Rattle.smi_mail_plain.specs.Mails.{is_sender}
use Rattle.smi_board.specs.Boards.{BoardView}
use Rattle.smi_board.specs.Contacts.{Replies, RepliesTaskOf, TaskSees, TaskWaits}
use Rattle.smi_board.specs.Posting.{Lists}
use Rattle.smi_board.specs.declared.contacts.Reply.{Reply}
use Rattle.smi_board.specs.declared.contacts.Reply.TheVariants as reply
use Rattle.smi_board.proofs.Sent.{sendable_at}
use Rattle.smi_world.specs.declared.step.Answer.{Answer}
use Rattle.smi_world.specs.declared.step.Answer.TheVariants.{Entries}
use Rattle.smi_world.specs.declared.refusal.StepError.TheVariants.{Memory}
use Rattle.smi_core.specs.Machines.{Tasks, HaveTasks, moves_at, setup_of}
use Rattle.smi_core.specs.Told.{BoardIsTold, TaskIsTaken, CoreGoes, HaveTheirs, with_task, entries_from, waited_from}
use Rattle.smi_core.proofs.Worlds.{world_kept}
use Rattle.smi_core.proofs.Posted.{queue_by, shows_posts}
use Rattle.smi_core.proofs.Moving.{taken_out}
use Rattle.smi_core.proofs.Changing.{changes_goes}
use Rattle.smi_core.proofs.Endings.{ends_goes}
use Rattle.smi_core.proofs.Readings.{readings_now, sees_goes, waits_goes}
use Rattle.smi_core.proofs.Sendings.{lists_of, sends_goes}

-- ---- what was made of a reply

-- the task goes back to its place where the reply has one
abbrev pub AfterReply : BoardView PlainView → TaskView → Tasks → BoardView PlainView → Reply → Type 0
AfterReply b t rest b2 (reply.Posted t2) = CoreGoes b (with_task rest t) t.turn.object (Ok (entries_from b.journal b2.journal)) b2 (slice_set rest t.turn.object (Some t2))
AfterReply b t rest b2 (reply.Seen t2) = CoreGoes b (with_task rest t) t.turn.object (Ok (entries_from b.journal b2.journal)) b2 (slice_set rest t.turn.object (Some t2))
AfterReply b t rest b2 (reply.Changed t2) = CoreGoes b (with_task rest t) t.turn.object (Ok (entries_from b.journal b2.journal)) b2 (slice_set rest t.turn.object (Some t2))
AfterReply b t rest b2 reply.Waiting = CoreGoes b (with_task rest t) t.turn.object (Ok (waited_from b.journal b2.journal)) b2 rest
AfterReply b t rest b2 reply.Ended = CoreGoes b (with_task rest t) t.turn.object (Ok (entries_from b.journal b2.journal)) b2 rest

-- the turn of a task that was told what is so now
turn_seen : (b : BoardView PlainView) (t : TaskView) (rest : Tasks) (names : List Subject) → TaskIsTaken b t rest → t.pending ≡ Some (named.Read names)
    → (with_states t (states_now b.domain b.journal (objects_by_names b.domain (sets_after b.domain b.journal) names)) (sets_after b.domain b.journal)).turn
    ≡ record t.turn { moves = t.turn.moves ++ DidRead (record { sets = sets_after b.domain b.journal; readings = map (reading_of b.domain b.journal) (objects_by_names b.domain (sets_after b.domain b.journal) names) }) ∷ [] }
turn_seen b t rest names h is =
    let sets = sets_after b.domain b.journal in
    let objects = objects_by_names b.domain sets names in
    let states = states_now b.domain b.journal objects in
    ap (λ x. record t.turn { moves = t.turn.moves ++ DidRead (sight_waiting t.domain sets states x) ∷ [] }) is
    ∙ ap (λ x. record t.turn { moves = t.turn.moves ++ DidRead (sight_of x sets names states) ∷ [] }) (taken_out b t rest h).0.domain
    ∙ ap (λ rs. record t.turn { moves = t.turn.moves ++ DidRead (record { sets = sets; readings = rs }) ∷ [] }) (readings_now b.domain b.journal objects)

after_reply : (b : BoardView PlainView) (t : TaskView) (rest : Tasks) (b2 : BoardView PlainView) (c : Option Contact) (r : Reply) → t.pending ≡ c → BoardIsTold b → TaskIsTaken b t rest → IfSome c (LeftNames t) → ((sets : Sets) → IfSome (option_map (expanded t.domain sets) c) (LeftAsks t sets)) → IfSome c (IsNextContact t)
    → b2.domain ≡ b.domain → b2.most ≡ b.most → Replies t c b (lists_of b.mail) b2 (lists_of b2.mail) r → AfterReply b t rest b2 r
after_reply b t rest b2 None r is told h l asks next domain most replies = absurd replies
after_reply b t rest b2 (Some (named.Local p v)) r is told h l asks next domain most replies = absurd replies
after_reply b t rest b2 (Some (named.End s)) r is told h l asks next domain most replies =
    subst (AfterReply b t rest b2) (sym replies.answers) (subst (λ x. CoreGoes b (with_task rest t) t.turn.object (Ok (entries_from b.journal x.journal)) x rest) (sym replies.after) (ends_goes b t rest s told h l next))
after_reply b t rest b2 (Some (named.Send w)) r is told h l asks next domain most replies =
    let d = b.domain in
    let sets = sets_after d b.journal in
    let out = taken_out b t rest h in
    let wants : LeftAsks t (sets_after t.domain b.journal) (Send w.target (posts_in d sets w)) = subst (λ x. LeftAsks t (sets_after t.domain b.journal) (Send w.target (posts_in x (sets_after x b.journal) w))) out.0.domain (asks (sets_after t.domain b.journal)) in
    let can = sendable_at d t b.journal b.params b.kept (is_sender b.mail.domain) (taken_at b.mail) (sent_at b.mail) w.target (posts_in d sets w) out.0.domain told.members told.sound told.tied told.runs told.kept h.within (record { turn = out.0.turn; none = out.1 }) wants in
    subst (AfterReply b t rest b2) (sym replies.answers)
    (sends_goes b b2 t rest w replies.verdicts told h l next can.postable replies.judged domain most replies.params_same replies.kept_same (with_verdicts t replies.verdicts sets) refl
    (ap (λ x. record t.turn { moves = t.turn.moves ++ DidSend (sending_waiting t.domain sets replies.verdicts x) ∷ [] }) is
    ∙ ap (λ x. record t.turn { moves = t.turn.moves ++ DidSend (sending_of x sets w replies.verdicts) ∷ [] }) out.0.domain))
after_reply b t rest b2 (Some (named.Change add member set)) r is told h l asks next domain most replies =
    subst (AfterReply b t rest b2) (sym replies.0.answers) (subst (λ x. CoreGoes b (with_task rest t) t.turn.object (Ok (entries_from b.journal x.journal)) x (slice_set rest t.turn.object (Some (task_with_change t)))) (sym replies.0.after)
    (changes_goes b t rest add member set told h l next (task_with_change t) refl (ap (λ x. record t.turn { moves = t.turn.moves ++ change_waiting x ∷ [] }) is)))
after_reply b t rest b2 (Some (named.Read names)) r is told h l asks next domain most replies = go (are_clear b.journal t.turn.object (objects_by_names b.domain (sets_after b.domain b.journal) names)) refl replies
  where
    go : (c : Bool) → are_clear b.journal t.turn.object (objects_by_names b.domain (sets_after b.domain b.journal) names) ≡ c
        → MatchBool c (TaskSees t (objects_by_names b.domain (sets_after b.domain b.journal) names) b b2 r) (TaskWaits t b b2 r) → AfterReply b t rest b2 r
    go true clear sees =
        let t2 = with_states t (states_now b.domain b.journal (objects_by_names b.domain (sets_after b.domain b.journal) names)) (sets_after b.domain b.journal) in
        subst (AfterReply b t rest b2) (sym sees.answers) (subst (λ x. CoreGoes b (with_task rest t) t.turn.object (Ok (entries_from b.journal x.journal)) x (slice_set rest t.turn.object (Some t2))) (sym sees.after)
        (sees_goes b t rest names told h l next t2 clear refl (turn_seen b t rest names h is)))
    go false held waits =
        subst (AfterReply b t rest b2) (sym waits.answers) (subst (λ x. CoreGoes b (with_task rest t) t.turn.object (Ok (waited_from b.journal x.journal)) x rest) (sym waits.after) (waits_goes b t rest names told h l next held))

pub reply_goes : (b : BoardView PlainView) (t : TaskView) (rest : Tasks) (b2 : BoardView PlainView) (r : Reply) → BoardIsTold b → TaskIsTaken b t rest → IfSome t.pending (LeftNames t) → ((sets : Sets) → IfSome (awaited t sets) (LeftAsks t sets)) → IfSome t.pending (IsNextContact t)
    → b2.domain ≡ b.domain → b2.most ≡ b.most → Replies t t.pending b (lists_of b.mail) b2 (lists_of b2.mail) r → AfterReply b t rest b2 r
reply_goes b t rest b2 r told h l asks next domain most replies = after_reply b t rest b2 t.pending r refl told h l asks next domain most replies

-- ---- if memory runs out

-- a board that is as it was, except for the room of its mail
pub record IsAsBefore (b b2 : BoardView PlainView) : Type 0 where
  pub domain : b2.domain ≡ b.domain
  pub most : b2.most ≡ b.most
  pub journal : b2.journal ≡ b.journal
  pub params : b2.params ≡ b.params
  pub kept : b2.kept ≡ b.kept
  pub lists : lists_of b2.mail ≡ lists_of b.mail

have_before : (b b2 : BoardView PlainView) (tasks : Tasks) → IsAsBefore b b2 → HaveTheirs b tasks → HaveTheirs b2 tasks
have_before b b2 tasks s h = subst (λ d. HaveTasks d b2.journal b2.params b2.kept tasks) (sym s.domain) (subst (λ J. HaveTasks b.domain J b2.params b2.kept tasks) (sym s.journal)
    (subst (λ p. HaveTasks b.domain b.journal p b2.kept tasks) (sym s.params) (subst (λ k. HaveTasks b.domain b.journal b.params k tasks) (sym s.kept) h)))

pub setup_before : (b b2 : BoardView PlainView) → IsAsBefore b b2 → setup_of b2 ≡ setup_of b
setup_before b b2 s = λ i. record { domain = s.domain i; capacity = (s.lists i).capacity; max_starts = s.most i }

-- a task that is what it was, in its place again
pub memory_goes : (b b2 : BoardView PlainView) (t : TaskView) (rest : Tasks) → IsAsBefore b b2 → TaskIsTaken b t rest → CoreGoes b (with_task rest t) t.turn.object (Err Memory) b2 (slice_set rest t.turn.object (Some t))
memory_goes b b2 t rest s h = record {
  moves = (refl, world_kept b b2 (with_task rest t) (with_task rest t) s.domain s.journal (λ o lt. ap (λ l. queue_by l o) s.lists) (λ o lt. ap (λ k. moves_at k (with_task rest t) o) s.kept));
  setup = setup_before b b2 s;
  have = have_before b b2 (with_task rest t) s h.have;
}

-- equal answers, boards and tasks
goes_with : (b : BoardView PlainView) (tasks : Tasks) (o : ℕ) (a a2 : Answer) (b2 b3 : BoardView PlainView) (tasks2 tasks3 : Tasks) → a2 ≡ a → b3 ≡ b2 → tasks3 ≡ tasks2 → CoreGoes b tasks o (Ok a) b2 tasks2 → CoreGoes b tasks o (Ok a2) b3 tasks3
goes_with b tasks o a a2 b2 b3 tasks2 tasks3 answer board places h = subst (λ x. CoreGoes b tasks o (Ok x) b3 tasks3) (sym answer) (subst (λ x. CoreGoes b tasks o (Ok a) x tasks3) (sym board) (subst (λ x. CoreGoes b tasks o (Ok a) b2 x) (sym places) h))

-- ---- the answers to a go, by the reply

module _ (b b2 : BoardView PlainView) (t : TaskView) (rest : Tasks) (r : Reply) (h : AfterReply b t rest b2 r) where
  pub posted_back : (t2 : TaskView) (d : Domain) (b3 : BoardView PlainView) (rest3 : Tasks) (J : List Entry) (a : Answer) → r ≡ reply.Posted t2 → RepliesTaskOf d t.turn.object r → b3 ≡ b2 → rest3 ≡ with_task rest t2 → J ≡ b.journal → a ≡ Entries (length J) (length b2.journal - length J)
      → CoreGoes b (with_task rest t) t.turn.object (Ok a) b3 rest3
  posted_back t2 d b3 rest3 J a is task board tasks front told =
      let object = (subst (RepliesTaskOf d t.turn.object) is task).1 in
      let goes = subst (AfterReply b t rest b2) is h in
      goes_with b (with_task rest t) t.turn.object (entries_from b.journal b2.journal) a b2 b3 (slice_set rest t.turn.object (Some t2)) rest3 (told ∙ ap (λ x. Entries (length x) (length b2.journal - length x)) front) board (tasks ∙ ap (λ x. slice_set rest x (Some t2)) object) goes

  pub seen_back : (t2 : TaskView) (d : Domain) (b3 : BoardView PlainView) (rest3 : Tasks) (J : List Entry) (a : Answer) → r ≡ reply.Seen t2 → RepliesTaskOf d t.turn.object r → b3 ≡ b2 → rest3 ≡ with_task rest t2 → J ≡ b.journal → a ≡ Entries (length J) (length b2.journal - length J)
      → CoreGoes b (with_task rest t) t.turn.object (Ok a) b3 rest3
  seen_back t2 d b3 rest3 J a is task board tasks front told =
      let object = (subst (RepliesTaskOf d t.turn.object) is task).1 in
      let goes = subst (AfterReply b t rest b2) is h in
      goes_with b (with_task rest t) t.turn.object (entries_from b.journal b2.journal) a b2 b3 (slice_set rest t.turn.object (Some t2)) rest3 (told ∙ ap (λ x. Entries (length x) (length b2.journal - length x)) front) board (tasks ∙ ap (λ x. slice_set rest x (Some t2)) object) goes

  pub changed_back : (t2 : TaskView) (d : Domain) (b3 : BoardView PlainView) (rest3 : Tasks) (J : List Entry) (a : Answer) → r ≡ reply.Changed t2 → RepliesTaskOf d t.turn.object r → b3 ≡ b2 → rest3 ≡ with_task rest t2 → J ≡ b.journal → a ≡ Entries (length J) (length b2.journal - length J)
      → CoreGoes b (with_task rest t) t.turn.object (Ok a) b3 rest3
  changed_back t2 d b3 rest3 J a is task board tasks front told =
      let object = (subst (RepliesTaskOf d t.turn.object) is task).1 in
      let goes = subst (AfterReply b t rest b2) is h in
      goes_with b (with_task rest t) t.turn.object (entries_from b.journal b2.journal) a b2 b3 (slice_set rest t.turn.object (Some t2)) rest3 (told ∙ ap (λ x. Entries (length x) (length b2.journal - length x)) front) board (tasks ∙ ap (λ x. slice_set rest x (Some t2)) object) goes

  pub waiting_back : (J : List Entry) (a : Answer) → r ≡ reply.Waiting → J ≡ b.journal → ((K : List Entry) → length K ≡ length J → a ≡ waited_from K b2.journal) → CoreGoes b (with_task rest t) t.turn.object (Ok a) b2 rest
  waiting_back J a is front told = goes_with b (with_task rest t) t.turn.object (waited_from b.journal b2.journal) a b2 b2 rest rest (told b.journal (sym (ap length front))) refl refl (subst (AfterReply b t rest b2) is h)

  pub ended_back : (J : List Entry) (a : Answer) → r ≡ reply.Ended → J ≡ b.journal → a ≡ Entries (length J) (length b2.journal - length J) → CoreGoes b (with_task rest t) t.turn.object (Ok a) b2 rest
  ended_back J a is front told = goes_with b (with_task rest t) t.turn.object (entries_from b.journal b2.journal) a b2 b2 rest rest (told ∙ ap (λ x. Entries (length x) (length b2.journal - length x)) front) refl refl (subst (AfterReply b t rest b2) is h)

-- ---- the journal grows

waited_longer : (o : ℕ) (J : List Entry) (c : Bool) → length J ≤ length (cond c J (J ++ entry.Wait o ∷ []))
waited_longer o J true = omega arith
waited_longer o J false = omega (arith, length-append J (entry.Wait o ∷ []))

reads_longer : (t : TaskView) (objects : List ℕ) (b b2 : BoardView PlainView) (r : Reply) (c : Bool) → MatchBool c (TaskSees t objects b b2 r) (TaskWaits t b b2 r) → length b.journal ≤ length b2.journal
reads_longer t objects b b2 r true sees =
    subst (λ (x : BoardView PlainView). length b.journal ≤ length x.journal) (sym sees.after) (omega (arith, length-append b.journal (entry.Seen t.turn.object (map (reading_of b.domain b.journal) objects) ∷ [])))
reads_longer t objects b b2 r false waits =
    subst (λ (x : BoardView PlainView). length b.journal ≤ length x.journal) (sym waits.after) (waited_longer t.turn.object b.journal (waits_at t.turn.object b.journal))

replies_longer : (t : TaskView) (c : Option Contact) (b b2 : BoardView PlainView) (l l2 : Lists) (r : Reply) → Replies t c b l b2 l2 r → length b.journal ≤ length b2.journal
replies_longer t None b b2 l l2 r h = absurd h
replies_longer t (Some (named.Local p v)) b b2 l l2 r h = absurd h
replies_longer t (Some (named.End s)) b b2 l l2 r h =
    subst (λ (x : BoardView PlainView). length b.journal ≤ length x.journal) (sym h.after) (omega (arith, length-append b.journal (entry.End t.turn.object (State (state_left (state_of b.domain t.turn.object b.journal) (outcome_of s))) ∷ [])))
replies_longer t (Some (named.Send w)) b b2 l l2 r h = (shows_posts b.domain t.turn.object w.target l l2 b.journal b2.journal (posts_in b.domain (sets_after b.domain b.journal) w) h.verdicts h.judged).longer
replies_longer t (Some (named.Change add member set)) b b2 l l2 r h =
    subst (λ (x : BoardView PlainView). length b.journal ≤ length x.journal) (sym h.0.after) (omega (arith, length-append b.journal (change_entry t.turn.object add member set ∷ [])))
replies_longer t (Some (named.Read names)) b b2 l l2 r h =
    let objects = objects_by_names b.domain (sets_after b.domain b.journal) names in
    reads_longer t objects b b2 r (are_clear b.journal t.turn.object objects) h

-- so the journal before is no longer than the one after
pub front_longer : (t : TaskView) (c : Option Contact) (b b2 : BoardView PlainView) (l l2 : Lists) (r : Reply) (J : List Entry) → J ≡ b.journal → Replies t c b l b2 l2 r → length J ≤ length b2.journal
front_longer t c b b2 l l2 r J is h = subst (λ (K : List Entry). length K ≤ length b2.journal) (sym is) (replies_longer t c b b2 l l2 r h)

-- ---- the task in its place again

pub memory_back : (b b2 : BoardView PlainView) (t t2 : TaskView) (rest rest2 : Tasks) (o : ℕ) → IsAsBefore b b2 → TaskIsTaken b t rest → t2 ≡ t → o ≡ t.turn.object → rest2 ≡ slice_set rest o (Some t2) → CoreGoes b (with_task rest t) t.turn.object (Err Memory) b2 rest2
memory_back b b2 t t2 rest rest2 o s h same at is =
    subst (CoreGoes b (with_task rest t) t.turn.object (Err Memory) b2) (sym (is ∙ ap (λ x. slice_set rest x (Some t2)) at ∙ ap (λ x. slice_set rest t.turn.object (Some x)) same)) (memory_goes b b2 t rest s h)
