-- What closes an action, and what a refused step leaves.
use Rattle.std.proofs.Common.{◌≡◌, ◌≢◌, ◌<◌, ◌-◌, ℕ, Bool, true, false, cond, List, [], ◌∷◌, ◌++◌, length, length-append, Option, Some, None, IfSome, Result, Ok, Err, refl, sym, ap, ◌∙◌, subst, arith}
use Rattle.std.specs.Prelude.{slice_set, is_some, not}
use Rattle.std.specs.Option.{option_map_or}
use Rattle.std.proofs.lemmas.Bool.{eq-eqb, true≢false}
use Rattle.std.proofs.lemmas.List.{length-set}
use Rattle.sml_domain.specs.Lookups.{associated_at, object_named, state_named, is_state_of}
use Rattle.smi_journal_entries.specs.declared.entry.ActionEnd.TheVariants.{State}
use Rattle.smi_journal_entries.specs.declared.entry.Cause.{Cause}
use Rattle.smi_journal_entries.specs.declared.entry.Cause.TheVariants.{By, Fault}
use Rattle.smi_journal_entries.specs.declared.entry.Entry.{Entry}
use Rattle.smi_journal_entries.specs.declared.entry.Entry.TheVariants as entry
use Rattle.smi_journal_entries.specs.Words.{is_open, object_of, open_at}
use Rattle.smi_journal_entries.proofs.OneMore.{open_more}
use Rattle.smi_interp.specs.Task.{TaskView}
use Rattle.smi_mail_plain.specs.Boxes.{PlainView}
use Rattle.smi_board.specs.Boards.{BoardView, own_at, kept_at}
use Rattle.smi_board.specs.Rings.{with_one}
use Rattle.smi_board.specs.Refusals.{answer_refusal, fault_refusal, kill_refusal}
use Rattle.smi_board.specs.Turns.{IsOf}
use Rattle.smi_board.specs.declared.errors.AnswerError.TheVariants as device
use Rattle.smi_world.specs.declared.step.Answer.{Answer}
use Rattle.smi_world.specs.declared.step.Answer.TheVariants.{Entries}
use Rattle.smi_world.specs.declared.step.Step.{Step}
use Rattle.smi_world.specs.declared.step.Step.TheVariants as step
use Rattle.smi_world.specs.declared.refusal.StepError.{StepError}
use Rattle.smi_world.specs.World.{turned}
use Rattle.smi_world.specs.Steps.{ClosesAction, IsRefusal, names_state}
use Rattle.smi_core.specs.Machines.{Tasks, either_task, moves_in, setup_of, world_of}
use Rattle.smi_core.specs.Stepping.{Steps}
use Rattle.smi_core.specs.Told.{BoardIsTold, CoreGoes, HaveTheirs, entries_from}
use Rattle.smi_core.proofs.Refusing.{go_free, go_memory, fault_free, answer_free, kill_free}
use Rattle.smi_core.proofs.Tasks.{others_one, have_after, has_none, written_elsewhere, written_here}
use Rattle.smi_core.proofs.Worlds.{world_turned}

-- a refused step changes nothing
pub refused : (b : BoardView PlainView) (tasks : Tasks) (s : Step) (e : StepError) → IsRefusal (setup_of b) (world_of b tasks) s e → HaveTheirs b tasks → Steps b tasks s (Err e) b tasks
refused b tasks s e is h = record { step = (is, refl); setup = refl; have = h }

pub refused_same : (b b2 : BoardView PlainView) (tasks : Tasks) (s : Step) (e : StepError) → b2 ≡ b → IsRefusal (setup_of b) (world_of b tasks) s e → HaveTheirs b tasks → Steps b tasks s (Err e) b2 tasks
refused_same b b2 tasks s e same is h = subst (λ x. Steps b tasks s (Err e) x tasks) (sym same) (refused b tasks s e is h)

-- ---- a move

steps_go : (b : BoardView PlainView) (tasks : Tasks) (x : List ℕ) (o : ℕ) (r : Result Answer StepError) (b2 : BoardView PlainView) (tasks2 : Tasks) → object_named b.domain x ≡ Some o → associated_at b.domain o ≡ false → is_open o b.journal ≡ true → CoreGoes b tasks o r b2 tasks2 → Steps b tasks (step.Go x) r b2 tasks2
steps_go b tasks x o (Ok a) b2 tasks2 named logical opened g = record {
  step = record { free = go_free (setup_of b) (world_of b tasks) x o named logical opened; object = o; is_object = named; made = g.moves };
  setup = g.setup;
  have = g.have;
}
steps_go b tasks x o (Err e) b2 tasks2 named logical opened g = record {
  step = (subst (IsRefusal (setup_of b) (world_of b tasks) (step.Go x)) (sym g.moves.0) (go_memory (setup_of b) (world_of b tasks) x o named logical opened), g.moves.1);
  setup = g.setup;
  have = g.have;
}

pub goes_steps : (b : BoardView PlainView) (tasks : Tasks) (x : List ℕ) (o : ℕ) (r : Result Answer StepError) (b2 : BoardView PlainView) (tasks2 : Tasks) → Some o ≡ object_named b.domain x → associated_at b.domain o ≡ false → is_open o b.journal ≡ true → CoreGoes b tasks o r b2 tasks2 → Steps b tasks (step.Go x) r b2 tasks2
goes_steps b tasks x o r b2 tasks2 named logical opened g = steps_go b tasks x o r b2 tasks2 (sym named) logical opened g

-- ---- no task

if_none : {X : Type 0} (P : X → Type 0) (x : Option X) → IfSome x P → ((y : X) → P y → ⊥) → x ≡ None
if_none P None h no_such = refl
if_none P (Some y) h no_such = absurd (no_such y h)

-- no task is of an object of a device
pub none_of_device : (b : BoardView PlainView) (tasks : Tasks) (o : ℕ) → BoardIsTold b → HaveTheirs b tasks → o < length b.domain.objects → associated_at b.domain o ≡ true → (kept_at tasks o ≡ None) × (kept_at b.kept o ≡ None)
none_of_device b tasks o told h lt device = (
  if_none (λ t. IsOf b.domain b.journal (own_at b.params o) o t × (kept_at b.kept o ≡ None)) (kept_at tasks o) (h.each o lt).out (λ t is. not_logical t is.0),
  if_none (IsOf b.domain b.journal (own_at b.params o) o) (kept_at b.kept o) (told.kept.each o) not_logical,
)
  where
    not_logical : (t : TaskView) → IsOf b.domain b.journal (own_at b.params o) o t → ⊥
    not_logical t is = true≢false (sym device ∙ ap (associated_at b.domain) (sym is.object) ∙ is.turn.logical)

-- nor of one where nothing is open
pub none_where_closed : (b : BoardView PlainView) (tasks : Tasks) (o : ℕ) → BoardIsTold b → HaveTheirs b tasks → o < length b.domain.objects → is_open o b.journal ≡ false → (kept_at tasks o ≡ None) × (kept_at b.kept o ≡ None)
none_where_closed b tasks o told h lt closed = (
  if_none (λ t. IsOf b.domain b.journal (own_at b.params o) o t × (kept_at b.kept o ≡ None)) (kept_at tasks o) (h.each o lt).out (λ t is. not_closed t is.0),
  if_none (IsOf b.domain b.journal (own_at b.params o) o) (kept_at b.kept o) (told.kept.each o) not_closed,
)
  where
    not_closed : (t : TaskView) → IsOf b.domain b.journal (own_at b.params o) o t → ⊥
    not_closed t is = true≢false (sym (ap is_some is.turn.opened) ∙ ap (λ x. is_open x b.journal) is.object ∙ closed)

-- ---- an entry that closes

module _ (b : BoardView PlainView) (tasks tasks2 : Tasks) (kept2 : List (Option TaskView)) (woken2 : List ℕ) (o : ℕ) (e : Entry) (lt : o < length b.domain.objects) (h : HaveTheirs b tasks) (at : object_of e ≡ o) (closed : open_at o (b.journal ++ e ∷ []) ≡ None)
    (none : kept_at tasks2 o ≡ None) (let_go : kept_at kept2 o ≡ None) (beside : (x : ℕ) → x ≢ o → kept_at tasks2 x ≡ kept_at tasks x) (keeps : (x : ℕ) → x ≢ o → kept_at kept2 x ≡ kept_at b.kept x) (count : length tasks2 ≡ length tasks) where
  abbrev after : BoardView PlainView
  after = record b { journal = b.journal ++ e ∷ []; kept = kept2; woken = woken2 }

  closed_have : HaveTheirs after tasks2
  closed_have = have_after b.domain o b.journal (b.journal ++ e ∷ []) b.params b.params b.kept kept2 tasks tasks2 (others_one b.domain o b.journal e at)
      (record { own = λ x apart. refl; keeps = keeps; beside = beside; count = count }) h
      (has_none b.domain (b.journal ++ e ∷ []) (own_at b.params o) o (kept_at tasks2 o) (kept_at kept2 o) closed none let_go)

  closed_world : world_of after tasks2 ≡ turned (world_of b tasks) o e
  closed_world = world_turned b after tasks tasks2 refl e o lt refl (λ x below. refl) (ap (λ s. moves_in (either_task s (kept_at kept2 o))) none ∙ ap moves_in let_go)
      (λ x below apart. ap (λ s. moves_in (either_task s (kept_at kept2 x))) (beside x apart) ∙ ap (λ k. moves_in (either_task (kept_at tasks x) k)) (keeps x apart))

  pub closed_by : ClosesAction (world_of b tasks) o e (entries_from b.journal (b.journal ++ e ∷ [])) (world_of after tasks2) × HaveTheirs after tasks2
  closed_by = (record { answer = record { count = length (b.journal ++ e ∷ []) - length b.journal; answer = refl; added = omega (arith, length-append b.journal (e ∷ [])) }; after = closed_world }, closed_have)

-- ---- the steps that close

-- the answer that was told is that of the entries
pub told_as_entries : (a : Answer) (J front K : List Entry) → front ≡ J → a ≡ Entries (length front) (length K - length front) → a ≡ entries_from J K
told_as_entries a J front K is told = told ∙ ap (λ x. Entries (length x) (length K - length x)) is

free_device : (a p : Bool) → cond (not a) (Some device.NotAssociated) (cond (not p) (Some device.NotOpen) None) ≡ None → (a ≡ true) × (p ≡ true)
free_device true true h = (refl, refl)
free_device true false h = absurd (cc h)
free_device false p h = absurd (cc h)

free_answered : (a p s : Bool) → cond (not a) (Some device.NotAssociated) (cond (not p) (Some device.NotOpen) (cond (not s) (Some device.NotAState) None)) ≡ None → (a ≡ true) × (p ≡ true) × (s ≡ true)
free_answered true true true h = (refl, refl, refl)
free_answered true true false h = absurd (cc h)
free_answered true false s h = absurd (cc h)
free_answered false p s h = absurd (cc h)

closed_kill : (J : List Entry) (o : ℕ) (k : Cause) → open_at o (J ++ entry.Kill o k ∷ []) ≡ None
closed_kill J o k = open_more o J (entry.Kill o k) ∙ ap (λ c. cond c None (open_at o J)) (eq-eqb o o refl)

closed_end : (J : List Entry) (o s : ℕ) → open_at o (J ++ entry.End o (State s) ∷ []) ≡ None
closed_end J o s = open_more o J (entry.End o (State s)) ∙ ap (λ c. cond c None (open_at o J)) (eq-eqb o o refl)

-- the same answer and board by other names
steps_with : (b : BoardView PlainView) (tasks : Tasks) (s : Step) (a a2 : Answer) (b2 b3 : BoardView PlainView) (tasks2 tasks3 : Tasks) → a2 ≡ a → b3 ≡ b2 → tasks3 ≡ tasks2 → Steps b tasks s (Ok a) b2 tasks2 → Steps b tasks s (Ok a2) b3 tasks3
steps_with b tasks s a a2 b2 b3 tasks2 tasks3 answer board places h = subst (λ x. Steps b tasks s (Ok x) b3 tasks3) (sym answer) (subst (λ x. Steps b tasks s (Ok a) x tasks3) (sym board) (subst (λ x. Steps b tasks s (Ok a) b2 x) (sym places) h))

module _ (b : BoardView PlainView) (tasks : Tasks) (x : List ℕ) (o : ℕ) (told : BoardIsTold b) (h : HaveTheirs b tasks) (lt : o < length b.domain.objects) (named : Some o ≡ object_named b.domain x) where
  abbrev faulted : BoardView PlainView
  faulted = record b { journal = b.journal ++ entry.Kill o Fault ∷ [] }

  pub fault_steps : (front : List Entry) (a : Answer) (b2 : BoardView PlainView) → fault_refusal b.domain b.journal o ≡ None → b2 ≡ faulted → front ≡ b.journal → a ≡ Entries (length front) (length b2.journal - length front) → Steps b tasks (step.Fault x) (Ok a) b2 tasks
  fault_steps front a b2 free after is answer =
      let device = free_device (associated_at b.domain o) (is_open o b.journal) free in
      let none = none_of_device b tasks o told h lt device.0 in
      let by = closed_by b tasks tasks b.kept b.woken o (entry.Kill o Fault) lt h refl (closed_kill b.journal o Fault) none.0 none.1 (λ y apart. refl) (λ y apart. refl) refl in
      steps_with b tasks (step.Fault x) (entries_from b.journal faulted.journal) a faulted b2 tasks tasks (told_as_entries a b.journal front faulted.journal is (answer ∙ ap (λ (y : BoardView PlainView). Entries (length front) (length y.journal - length front)) after)) after refl (record {
        step = record { free = fault_free (setup_of b) (world_of b tasks) x o (sym named) free; object = o; is_object = sym named; made = by.0 };
        setup = refl;
        have = by.1;
      })

  abbrev cut : ℕ → BoardView PlainView
  cut k = record b { journal = b.journal ++ entry.Kill o (By k) ∷ []; kept = slice_set b.kept o None }

  pub kill_steps : (k : ℕ) (front : List Entry) (a : Answer) (b2 : BoardView PlainView) (tasks2 : Tasks) → kill_refusal b.journal o ≡ None → b2 ≡ cut k → tasks2 ≡ slice_set tasks o None → front ≡ b.journal → a ≡ Entries (length front) (length b2.journal - length front) → Steps b tasks (step.Kill x k) (Ok a) b2 tasks2
  kill_steps k front a b2 tasks2 free after places is answer =
      let by = closed_by b tasks (slice_set tasks o None) (slice_set b.kept o None) b.woken o (entry.Kill o (By k)) lt h refl (closed_kill b.journal o (By k))
      (written_here tasks o None (omega (arith, lt, h.count))) (written_here b.kept o None (omega (arith, lt, told.kept.count))) (written_elsewhere tasks o None) (written_elsewhere b.kept o None) (length-set tasks o None) in
      steps_with b tasks (step.Kill x k) (entries_from b.journal (cut k).journal) a (cut k) b2 (slice_set tasks o None) tasks2 (told_as_entries a b.journal front (cut k).journal is (answer ∙ ap (λ (y : BoardView PlainView). Entries (length front) (length y.journal - length front)) after)) after places (record {
        step = record { free = kill_free (setup_of b) (world_of b tasks) x o (sym named) k free; object = o; is_object = sym named; made = by.0 };
        setup = refl;
        have = by.1;
      })

  abbrev ended_in : ℕ → BoardView PlainView
  ended_in s = record b { journal = b.journal ++ entry.End o (State s) ∷ []; woken = with_one o b.woken }

  pub answer_steps : (y : List ℕ) (s : ℕ) (front : List Entry) (a : Answer) (b2 : BoardView PlainView) → Some s ≡ state_named b.domain y → answer_refusal b.domain b.journal o s ≡ None → b2 ≡ ended_in s → front ≡ b.journal → a ≡ Entries (length front) (length b2.journal - length front) → Steps b tasks (step.Answer x y) (Ok a) b2 tasks
  answer_steps y s front a b2 state free after is answer =
      let device = free_answered (associated_at b.domain o) (is_open o b.journal) (is_state_of b.domain o s) free in
      let none = none_of_device b tasks o told h lt device.0 in
      let by = closed_by b tasks tasks b.kept (with_one o b.woken) o (entry.End o (State s)) lt h refl (closed_end b.journal o s) none.0 none.1 (λ y apart. refl) (λ y apart. refl) refl in
      let names : names_state b.domain y o ≡ true = ap (λ z. option_map_or (is_state_of b.domain o) z false) (sym state) ∙ device.2 in
      steps_with b tasks (step.Answer x y) (entries_from b.journal (ended_in s).journal) a (ended_in s) b2 tasks tasks (told_as_entries a b.journal front (ended_in s).journal is (answer ∙ ap (λ (z : BoardView PlainView). Entries (length front) (length z.journal - length front)) after)) after refl (record {
        step = record { free = answer_free (setup_of b) (world_of b tasks) x o (sym named) y device.0 device.1 names; object = o; is_object = sym named; made = (s, sym state, by.0) };
        setup = refl;
        have = by.1;
      })
