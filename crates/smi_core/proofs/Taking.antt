-- Tasks that are taken out of the board, and from their places.
use Rattle.std.proofs.Common.{◌≡◌, ◌<◌, ℕ, zero, suc, true, false, List, [], ◌∷◌, ◌++◌, length, map, Option, Some, None, IfSome, Result, Ok, Err, refl, sym, ap, ◌∙◌, subst, arith, ⊎_elim, inl, inr}
use Rattle.std.specs.Prelude.{slice_set, is_some}
use Rattle.std.specs.List.{slice_index_or}
use Rattle.std.proofs.lemmas.Bool.{cases_eq, true≢false}
use Rattle.std.proofs.lemmas.List.{get_or_default, length-set, set-get_or, set-set}
use Rattle.sml_domain.specs.declared.value.Value.{Value}
use Rattle.sml_domain.specs.Domain.{Domain}
use Rattle.sml_domain.specs.Program.{Subject}
use Rattle.sml_domain.specs.Lookups.{associated_at}
use Rattle.smi_journal_entries.specs.declared.entry.Entry.{Entry}
use Rattle.smi_journal_entries.specs.Words.{is_open, waits_at}
use Rattle.smi_meaning.specs.EntryLaws.{are_clear, reading_of}
use Rattle.smi_meaning.specs.Meaning.{DidRead}
use Rattle.smi_interp.specs.declared.contact.Contact.{Contact}
use Rattle.smi_interp.specs.declared.contact.Contact.TheVariants as named
use Rattle.smi_journal_entries.specs.Sets.{sets_after}
use Rattle.smi_interp.specs.Expanded.{objects_by_names}
use Rattle.smi_interp.specs.Task.{TaskView, IsNextContact, LeftNames, shown}
use Rattle.smi_mail_plain.specs.Boxes.{PlainView}
use Rattle.smi_board.specs.Boards.{BoardView, own_at, kept_at}
use Rattle.smi_board.specs.Contacts.{Resumes}
use Rattle.smi_board.specs.Turns.{IsOf, can_go_on, objects_waiting}
use Rattle.smi_board.specs.declared.resuming.Work.TheVariants.{Resume}
use Rattle.smi_world.specs.declared.step.Answer.{Answer}
use Rattle.smi_world.specs.declared.step.Answer.TheVariants.{Changed, Still}
use Rattle.smi_world.specs.declared.refusal.StepError.{StepError}
use Rattle.smi_world.specs.Moves.{ActionGoesOn}
use Rattle.smi_core.specs.Machines.{Tasks, HasTask, either_task, moves_in, moves_at, setup_of, world_of}
use Rattle.smi_core.specs.Told.{BoardIsTold, TaskIsTaken, CoreGoes, MovesOn, HaveTheirs, IsRested, Stays, CoreTakes, changed_by, with_task}
use Rattle.smi_core.proofs.Worlds.{moves_are, world_kept}
use Rattle.smi_core.proofs.Tasks.{others_self, written_elsewhere, written_here, have_after, has_beside}
use Rattle.smi_core.proofs.Moving.{asking, asking_stays, asking_taken, may_go, may_move, sets_goes}
use Rattle.smi_core.proofs.Readings.{clear_read, may_read}

-- how many tasks are kept
abbrev pub kept_count : List (Option TaskView) → ℕ
kept_count [] = 0
kept_count (None ∷ kept) = kept_count kept
kept_count (Some t ∷ kept) = suc (kept_count kept)

-- what is at a place is in the list
pub there : (kept : List (Option TaskView)) (o : ℕ) (t : TaskView) → kept_at kept o ≡ Some t → o < length kept
there [] o t is = absurd (cc is)
there (x ∷ kept) zero t is = omega arith
there (x ∷ kept) (suc o) t is = let h = there kept o t is in omega (arith, h)

-- one that is dropped is kept no more
pub fewer : (kept : List (Option TaskView)) (o : ℕ) (t : TaskView) → kept_at kept o ≡ Some t → kept_count (slice_set kept o None) < kept_count kept
fewer [] o t is = absurd (cc is)
fewer (None ∷ kept) zero t is = absurd (cc is)
fewer (Some x ∷ kept) zero t is = omega arith
fewer (None ∷ kept) (suc o) t is = fewer kept o t is
fewer (Some x ∷ kept) (suc o) t is = let h = fewer kept o t is in omega (arith, h)

-- where the board keeps a task of an object, there is no task beside it
none_beside : (d : Domain) (J : List Entry) (own : List Value) (o : ℕ) (beside kept : Option TaskView) (t : TaskView) → kept ≡ Some t → HasTask d J own o beside kept → beside ≡ None
none_beside d J own o None kept t is h = refl
none_beside d J own o (Some s) kept t is h = absurd (cc (sym is ∙ h.out.1))

if_some : {X : Type 0} (P : X → Type 0) (x : Option X) (y : X) → x ≡ Some y → IfSome x P → P y
if_some P x y is h = subst (λ z. IfSome z P) is h

same_task : (t s : TaskView) → Resume t ≡ Resume s → s ≡ t
same_task t s e = cc

-- ---- a task continues

module _ (b : BoardView PlainView) (tasks : Tasks) (o : ℕ) (t : TaskView) (told : BoardIsTold b) (h : HaveTheirs b tasks) (kept : kept_at b.kept o ≡ Some t) where
  within : o < length b.domain.objects
  within = let lt = there b.kept o t kept in omega (arith, lt, told.kept.count)

  task_is : IsOf b.domain b.journal (own_at b.params o) o t
  task_is = if_some (IsOf b.domain b.journal (own_at b.params o) o) (kept_at b.kept o) t kept (told.kept.each o)

  no_other : kept_at tasks o ≡ None
  no_other = none_beside b.domain b.journal (own_at b.params o) o (kept_at tasks o) (kept_at b.kept o) t kept (h.each o within)

  -- the board without it
  abbrev without : BoardView PlainView
  without = record b { kept = slice_set b.kept o None }

  goes_out : o < length tasks → HaveTheirs without (slice_set tasks o (Some t))
  goes_out lt = have_after b.domain o b.journal b.journal b.params b.params b.kept (slice_set b.kept o None) tasks (slice_set tasks o (Some t)) (others_self b.domain o b.journal)
      (record { own = λ x apart. refl; keeps = written_elsewhere b.kept o None; beside = written_elsewhere tasks o (Some t); count = length-set tasks o (Some t) }) h
      (has_beside b.domain b.journal (own_at b.params o) o t (kept_at (slice_set tasks o (Some t)) o) (kept_at (slice_set b.kept o None) o)
      (written_here tasks o (Some t) lt) (written_here b.kept o None (there b.kept o t kept)) task_is)

  same_moves : o < length tasks → (x : ℕ) → x < length b.domain.objects → moves_at (slice_set b.kept o None) (slice_set tasks o (Some t)) x ≡ moves_at b.kept tasks x
  same_moves lt x below = ⊎_elim
      (λ (at : x ≡ o). ap (moves_at (slice_set b.kept o None) (slice_set tasks o (Some t))) at ∙ ap (λ s. moves_in (either_task s (kept_at (slice_set b.kept o None) o))) (written_here tasks o (Some t) lt)
      ∙ sym (ap (moves_at b.kept tasks) at ∙ ap (λ s. moves_in (either_task s (kept_at b.kept o))) no_other ∙ ap moves_in kept))
      (λ apart. ap (λ s. moves_in (either_task s (kept_at (slice_set b.kept o None) x))) (written_elsewhere tasks o (Some t) x apart) ∙ ap (λ k. moves_in (either_task (kept_at tasks x) k)) (written_elsewhere b.kept o None x apart))
      (cases_eq x o)

  goes_stays : o < length tasks → Stays b tasks without (slice_set tasks o (Some t))
  goes_stays lt = record { world = world_kept b without tasks (slice_set tasks o (Some t)) refl refl (λ x below. refl) (same_moves lt); setup = refl }

-- what one turn of the loop did
pub record IsResumed (b : BoardView PlainView) (tasks : Tasks) (b2 : BoardView PlainView) (tasks2 : Tasks) : Type 0 where
  pub have : HaveTheirs b2 tasks2
  pub stays : Stays b tasks b2 tasks2
  pub fewer : kept_count b2.kept < kept_count b.kept

resumed_here : (b : BoardView PlainView) (tasks : Tasks) (o : ℕ) (t : TaskView) → BoardIsTold b → HaveTheirs b tasks → kept_at b.kept o ≡ Some t → IsResumed b tasks (record b { kept = slice_set b.kept o None }) (slice_set tasks o (Some t))
resumed_here b tasks o t told h kept =
    let lt = there b.kept o t kept in
    let below : o < length tasks = omega (arith, lt, told.kept.count, h.count) in
    record { have = goes_out b tasks o t told h kept below; stays = goes_stays b tasks o t told h kept below; fewer = fewer b.kept o t kept }

pub resumed : (b b2 : BoardView PlainView) (tasks : Tasks) (t : TaskView) → BoardIsTold b → HaveTheirs b tasks → Resumes b b2 (Resume t) → IsResumed b tasks b2 (slice_set tasks t.turn.object (Some t))
resumed b b2 tasks t told h r =
    let same = same_task t r.task r.resumed in
    let kept : kept_at b.kept r.object ≡ Some t = r.was_kept ∙ ap (λ x. Some x) same in
    subst (λ x. IsResumed b tasks x (slice_set tasks t.turn.object (Some t))) (sym r.after)
    (subst (λ o. IsResumed b tasks (record b { kept = slice_set b.kept r.object None }) (slice_set tasks o (Some t))) (sym (task_is b tasks r.object t told h kept).object) (resumed_here b tasks r.object t told h kept))

pub stays_then : (b b2 b3 : BoardView PlainView) (tasks tasks2 tasks3 : Tasks) → Stays b tasks b2 tasks2 → Stays b2 tasks2 b3 tasks3 → Stays b tasks b3 tasks3
stays_then b b2 b3 tasks tasks2 tasks3 h k = record { world = k.world ∙ h.world; setup = k.setup ∙ h.setup }

-- ---- a task is taken

-- a task put back in its place
with_back : (tasks : Tasks) (o : ℕ) (t : TaskView) → kept_at tasks o ≡ Some t → t.turn.object ≡ o → with_task (slice_set tasks o None) t ≡ tasks
with_back tasks o t is at =
    ap (λ x. slice_set (slice_set tasks o None) x (Some t)) at ∙ set-set tasks o None (Some t) ∙ ap (slice_set tasks o) (sym is) ∙ set-get_or tasks o None

takes_by : (b : BoardView PlainView) (tasks : Tasks) (o : ℕ) (x : Option TaskView) → kept_at tasks o ≡ x → o < length b.domain.objects → HaveTheirs b tasks → (x ≡ None → can_go_on b.domain o b.journal (kept_at b.kept o) ≡ false) → CoreTakes b tasks o x b (slice_set tasks o None)
takes_by b tasks o None is lt h none =
    let same : slice_set tasks o None ≡ tasks = ap (slice_set tasks o) (sym is) ∙ set-get_or tasks o None in (
      ap (λ x. kept_at x o) same ∙ is,
      none refl,
      subst (HaveTheirs b) (sym same) h,
      record { world = ap (world_of b) same; setup = refl },
    )
takes_by b tasks o (Some t) is lt h none =
    let at = (if_some (λ s. IsOf b.domain b.journal (own_at b.params o) o s × (kept_at b.kept o ≡ None)) (kept_at tasks o) t is (h.each o lt).out).0.object in
    let back = with_back tasks o t is at in
    let below : o < length tasks = omega (arith, lt, h.count) in (
      at,
      record {
        within = subst (λ x. x < length b.domain.objects) (sym at) lt;
        none = ap (λ x. kept_at (slice_set tasks o None) x) at ∙ written_here tasks o None below;
        have = subst (HaveTheirs b) (sym back) h;
      },
      record { world = ap (world_of b) back; setup = refl },
    )

-- what stood at its place is taken
pub takes : (b : BoardView PlainView) (tasks tasks2 : Tasks) (o : ℕ) (x : Option TaskView) → x ≡ kept_at tasks o → tasks2 ≡ slice_set tasks o None → o < length b.domain.objects → HaveTheirs b tasks → (x ≡ None → can_go_on b.domain o b.journal (kept_at b.kept o) ≡ false) → CoreTakes b tasks o x b tasks2
takes b tasks tasks2 o x is after lt h none = subst (CoreTakes b tasks o x b) (sym after) (takes_by b tasks o x (sym is) lt h none)

-- where there is some
pub takes_some : (b : BoardView PlainView) (tasks tasks2 : Tasks) (o i : ℕ) (x y : Option TaskView) → x ≡ kept_at tasks o → tasks2 ≡ slice_set tasks o None → o < length b.domain.objects → HaveTheirs b tasks → i ≡ o → y ≡ slice_index_or tasks i y → true ≡ is_some y → CoreTakes b tasks o x b tasks2
takes_some b tasks tasks2 o i x y is after lt h at there some = takes b tasks tasks2 o x is after lt h (λ none. absurd (true≢false (some ∙ ap is_some (y_is ∙ sym is ∙ none))))
  where
    y_is : y ≡ kept_at tasks o
    y_is = there ∙ ap (λ k. slice_index_or tasks k y) at ∙ get_or_default tasks o y None (omega (arith, lt, h.count))

pub takes_then : (b b2 b3 : BoardView PlainView) (tasks tasks2 rest : Tasks) (o : ℕ) (x : Option TaskView) → Stays b tasks b2 tasks2 → CoreTakes b2 tasks2 o x b3 rest → CoreTakes b tasks o x b3 rest
takes_then b b2 b3 tasks tasks2 rest o None s h = (h.0, h.1, h.2, stays_then b b2 b3 tasks tasks2 rest s h.3)
takes_then b b2 b3 tasks tasks2 rest o (Some t) s h = (h.0, h.1, stays_then b b2 b3 tasks tasks2 (with_task rest t) s h.2)

-- ---- a move of a task that was taken is one of its object

moves_after : (b b2 b3 : BoardView PlainView) (tasks tasks2 tasks3 : Tasks) (o : ℕ) (r : Result Answer StepError) → Stays b tasks b2 tasks2 → MovesOn b2 tasks2 o r b3 tasks3 → MovesOn b tasks o r b3 tasks3
moves_after b b2 b3 tasks tasks2 tasks3 o (Ok a) s h = subst (λ m. ActionGoesOn m (world_of b tasks) o a (world_of b3 tasks3)) s.setup (subst (λ w. ActionGoesOn (setup_of b2) w o a (world_of b3 tasks3)) s.world h)
moves_after b b2 b3 tasks tasks2 tasks3 o (Err e) s h = (h.0, h.1 ∙ s.world)

pub goes_after : (b b2 b3 : BoardView PlainView) (tasks tasks2 tasks3 : Tasks) (o : ℕ) (r : Result Answer StepError) → Stays b tasks b2 tasks2 → CoreGoes b2 tasks2 o r b3 tasks3 → CoreGoes b tasks o r b3 tasks3
goes_after b b2 b3 tasks tasks2 tasks3 o r s h = record { moves = moves_after b b2 b3 tasks tasks2 tasks3 o r s h.moves; setup = h.setup ∙ s.setup; have = h.have }

pub goes_taken : (b b2 b3 : BoardView PlainView) (tasks rest tasks3 : Tasks) (o : ℕ) (t : TaskView) (r : Result Answer StepError) → CoreTakes b tasks o (Some t) b2 rest → CoreGoes b2 (with_task rest t) t.turn.object r b3 tasks3 → CoreGoes b tasks o r b3 tasks3
goes_taken b b2 b3 tasks rest tasks3 o t r h g = goes_after b b2 b3 tasks (with_task rest t) tasks3 o r h.2 (subst (λ x. CoreGoes b2 (with_task rest t) x r b3 tasks3) h.0 g)

-- ---- an object that waits on

-- the task that is kept waits to read objects that are not all clear
reads_of : (d : Domain) (o : ℕ) (J : List Entry) (c : Option Contact) → are_clear J o (objects_waiting d (sets_after d J) c) ≡ false → (names : List Subject) × (c ≡ Some (named.Read names)) × (are_clear J o (objects_by_names d (sets_after d J) names) ≡ false)
reads_of d o J None held = absurd (true≢false held)
reads_of d o J (Some (named.Local p v)) held = absurd (true≢false held)
reads_of d o J (Some (named.Send wanted)) held = absurd (true≢false held)
reads_of d o J (Some (named.Change add member set)) held = absurd (true≢false held)
reads_of d o J (Some (named.End s)) held = absurd (true≢false held)
reads_of d o J (Some (named.Read names)) held = (names, refl, held)

still_here : (b : BoardView PlainView) (tasks : Tasks) (o : ℕ) (t : TaskView) → BoardIsTold b → o < length b.domain.objects → HaveTheirs b tasks → kept_at tasks o ≡ None → kept_at b.kept o ≡ Some t
    → are_clear b.journal o (objects_waiting b.domain (sets_after b.domain b.journal) t.pending) ≡ false → IfSome t.pending (IsNextContact t) → IfSome t.pending (LeftNames t) → waits_at o b.journal ≡ true
    → CoreGoes b tasks o (Ok Still) b tasks
still_here b tasks o t told lt h none kept held next left waits =
    let d = b.domain in
    let reads = reads_of d o b.journal t.pending held in
    let names = reads.0 in
    let objects = objects_by_names d (sets_after d b.journal) names in
    let l = if_some (LeftNames t) t.pending (named.Read names) reads.1 left in
    let n = if_some (IsNextContact t) t.pending (named.Read names) reads.1 next in
    let is = if_some (IsOf d b.journal (own_at b.params o) o) (kept_at b.kept o) t kept (told.kept.each o) in
    let x = DidRead (record { sets = sets_after d b.journal; readings = map (reading_of d b.journal) objects }) in
    let moves : moves_at b.kept tasks o ≡ t.turn.moves = ap (λ s. moves_in (either_task s (kept_at b.kept o))) none ∙ ap moves_in kept in
    record {
      moves = inr (inr (inr (inr (inl (record {
        held = record {
          readings = map (reading_of d b.journal) objects;
          next = may_move (setup_of b) (world_of b tasks) o t.turn.moves x (moves_are b tasks o lt ∙ moves)
              (may_go b o t told lt is l.left (t.turn.moves ++ x ∷ []) l.leads (may_read t d b.journal names is.domain n));
          held = clear_read d b.journal o objects ∙ reads.2;
        };
        waits = waits;
        answer = refl;
        after = refl;
      })))));
      setup = refl;
      have = h;
    }

still_by : (b : BoardView PlainView) (tasks : Tasks) (o : ℕ) (k : Option TaskView) → kept_at b.kept o ≡ k → BoardIsTold b → o < length b.domain.objects → is_open o b.journal ≡ true → associated_at b.domain o ≡ false → HaveTheirs b tasks → kept_at tasks o ≡ None → can_go_on b.domain o b.journal k ≡ false
    → IfSome k (λ t. IfSome t.pending (IsNextContact t)) → IfSome k (λ t. IfSome t.pending (LeftNames t)) → CoreGoes b tasks o (Ok Still) b tasks
still_by b tasks o None is told lt opened logical h none held next left =
    absurd (true≢false (sym ((h.each o lt).there opened logical) ∙ ap (λ s. is_some (either_task s (kept_at b.kept o))) none ∙ ap is_some is))
still_by b tasks o (Some t) is told lt opened logical h none held next left =
    still_here b tasks o t told lt h none is held next left (if_some (λ x. waits_at o b.journal ≡ true) (kept_at b.kept o) t is (h.each o lt).waits)

-- it was not taken, since it cannot continue
pub still_goes : (b b2 : BoardView PlainView) (tasks rest : Tasks) (o : ℕ) → CoreTakes b tasks o None b2 rest → BoardIsTold b2 → o < length b.domain.objects → is_open o b.journal ≡ true → associated_at b.domain o ≡ false
    → IfSome (kept_at b2.kept o) (λ t. IfSome t.pending (IsNextContact t)) → IfSome (kept_at b2.kept o) (λ t. IfSome t.pending (LeftNames t)) → CoreGoes b tasks o (Ok Still) b2 rest
still_goes b b2 tasks rest o h told lt opened logical next left =
    let s = h.3 in
    let domain : b2.domain ≡ b.domain = ap (λ m. m.domain) s.setup in
    let entries : b2.journal ≡ b.journal = ap (λ w. w.journal) s.world in
    goes_after b b2 b2 tasks rest rest o (Ok Still) s (still_by b2 rest o (kept_at b2.kept o) refl told (subst (λ d. o < length d.objects) (sym domain) lt) (subst (λ J. is_open o J ≡ true) (sym entries) opened) (ap (λ d. associated_at d o) domain ∙ logical) h.2 h.0 h.1 next left)

pub resumed_at : (b b2 : BoardView PlainView) (tasks tasks1 tasks2 : Tasks) (t : TaskView) (o : ℕ) → BoardIsTold b → HaveTheirs b tasks → Resumes b b2 (Resume t) → tasks1 ≡ tasks → o ≡ t.turn.object → tasks2 ≡ slice_set tasks1 o (Some t) → IsResumed b tasks b2 tasks2
resumed_at b b2 tasks tasks1 tasks2 t o told h r same at is = subst (IsResumed b tasks b2) (sym (is ∙ ap (λ xs. slice_set xs o (Some t)) same ∙ ap (λ x. slice_set tasks x (Some t)) at)) (resumed b b2 tasks t told h r)

-- where none does
pub record Rests (b : BoardView PlainView) (tasks : Tasks) (b2 : BoardView PlainView) (tasks2 : Tasks) : Type 0 where
  pub have : HaveTheirs b2 tasks2
  pub stays : Stays b tasks b2 tasks2
  pub none : (o : ℕ) → can_go_on b2.domain o b2.journal (kept_at b2.kept o) ≡ false

pub rested : (b b2 : BoardView PlainView) (tasks tasks2 : Tasks) → HaveTheirs b tasks → tasks2 ≡ tasks → IsRested b b2 → Rests b tasks b2 tasks2
rested b b2 tasks tasks2 h same r = subst (Rests b tasks b2) (sym same) (by b2.woken b2 r.after)
  where
    by : (w : List ℕ) (x : BoardView PlainView) → x ≡ record b { woken = w } → Rests b tasks x tasks
    by w x is = subst (λ y. Rests b tasks y tasks) (sym is) (record { have = h; stays = record { world = refl; setup = refl }; none = r.none })

-- ---- a contact that was made

module _ (b : BoardView PlainView) (t t2 : TaskView) (rest : Tasks) (told : BoardIsTold b) (h : TaskIsTaken b t rest) where
  -- a set was made
  pub set_back : (c : Contact) (a : Answer) (rest2 : Tasks) (o : ℕ) → Some a ≡ changed_by c → IsNextContact t c → LeftNames t c → t2 ≡ shown t c → o ≡ t.turn.object → rest2 ≡ slice_set rest o (Some t2) → CoreGoes b (with_task rest t) t.turn.object (Ok a) b rest2
  set_back (named.Local p v) a rest2 o is next l same at put =
      let answer : a ≡ Changed p v = cc in
      subst (λ x. CoreGoes b (with_task rest t) t.turn.object (Ok x) b rest2) (sym answer)
      (subst (CoreGoes b (with_task rest t) t.turn.object (Ok (Changed p v)) b) (sym (put ∙ ap (λ x. slice_set rest x (Some t2)) at ∙ ap (λ x. slice_set rest t.turn.object (Some x)) same))
      (sets_goes b t rest p v told h l next))
  set_back (named.Send wanted) a rest2 o is next l same at put = absurd (cc is)
  set_back (named.Read names) a rest2 o is next l same at put = absurd (cc is)
  set_back (named.Change add member set) a rest2 o is next l same at put = absurd (cc is)
  set_back (named.End s) a rest2 o is next l same at put = absurd (cc is)

  -- any other waits
  pub asks_taken : (c : Contact) → None ≡ changed_by c → t2 ≡ shown t c → TaskIsTaken b t2 rest
  asks_taken (named.Local p v) is same = absurd (cc is)
  asks_taken (named.Send wanted) is same = subst (λ x. TaskIsTaken b x rest) (sym same) (asking_taken b t rest (named.Send wanted) h)
  asks_taken (named.Read names) is same = subst (λ x. TaskIsTaken b x rest) (sym same) (asking_taken b t rest (named.Read names) h)
  asks_taken (named.Change add member set) is same = subst (λ x. TaskIsTaken b x rest) (sym same) (asking_taken b t rest (named.Change add member set) h)
  asks_taken (named.End s) is same = subst (λ x. TaskIsTaken b x rest) (sym same) (asking_taken b t rest (named.End s) h)

  asks_goes : (c : Contact) (r : Result Answer StepError) (b3 : BoardView PlainView) (tasks3 : Tasks) → CoreGoes b (with_task rest (asking t c)) t.turn.object r b3 tasks3 → CoreGoes b (with_task rest t) t.turn.object r b3 tasks3
  asks_goes c r b3 tasks3 g = goes_after b b b3 (with_task rest t) (with_task rest (asking t c)) tasks3 t.turn.object r (asking_stays b t rest c h) g

  pub asks_back : (c : Contact) (r : Result Answer StepError) (b3 : BoardView PlainView) (tasks3 : Tasks) → None ≡ changed_by c → t2 ≡ shown t c → CoreGoes b (with_task rest t2) t2.turn.object r b3 tasks3 → CoreGoes b (with_task rest t) t.turn.object r b3 tasks3
  asks_back (named.Local p v) r b3 tasks3 is same g = absurd (cc is)
  asks_back (named.Send wanted) r b3 tasks3 is same g = asks_goes (named.Send wanted) r b3 tasks3 (subst (λ x. CoreGoes b (with_task rest x) x.turn.object r b3 tasks3) same g)
  asks_back (named.Read names) r b3 tasks3 is same g = asks_goes (named.Read names) r b3 tasks3 (subst (λ x. CoreGoes b (with_task rest x) x.turn.object r b3 tasks3) same g)
  asks_back (named.Change add member set) r b3 tasks3 is same g = asks_goes (named.Change add member set) r b3 tasks3 (subst (λ x. CoreGoes b (with_task rest x) x.turn.object r b3 tasks3) same g)
  asks_back (named.End s) r b3 tasks3 is same g = asks_goes (named.End s) r b3 tasks3 (subst (λ x. CoreGoes b (with_task rest x) x.turn.object r b3 tasks3) same g)
