-- What a start makes of the world.
use Rattle.std.proofs.Common.{◌≡◌, ◌≢◌, ◌<◌, ◌≤◌, ◌-◌, ◌==◌, ℕ, Bool, true, false, cond, List, [], ◌∷◌, ◌++◌, length, length-append, Option, Some, None, Ok, Err, refl, sym, ap, ◌∙◌, subst, arith, ⊎_elim, append_assoc, append-nil}
use Rattle.std.specs.Prelude.{slice_get, slice_set, is_some, map, nat_le}
use Rattle.std.specs.Option.{option_map}
use Rattle.std.proofs.lemmas.Bool.{cases_eq, eq-eqb, ne_eqb, true≢false}
use Rattle.std.proofs.lemmas.Grind.{flat_map-append}
use Rattle.std.proofs.lemmas.List.{length-set, set-set}
use Rattle.sml_domain.specs.declared.value.Value.{Value}
use Rattle.sml_domain.specs.Domain.{Domain}
use Rattle.sml_domain.specs.Program.{Program}
use Rattle.sml_domain.specs.Lookups.{associated_at, block_at, object_named, program_at, tree_of_block}
use Rattle.smi_journal_entries.specs.declared.letter.Letter.{Letter}
use Rattle.smi_journal_entries.specs.declared.entry.ActionEnd.TheVariants.{Skipped as Skip}
use Rattle.smi_journal_entries.specs.declared.entry.Entry.{Entry}
use Rattle.smi_journal_entries.specs.declared.entry.Entry.TheVariants as entry
use Rattle.smi_journal_entries.specs.Requests.{Request, request_of, from_sender}
use Rattle.smi_journal_entries.specs.Words.{all_starts, answer_of, dead_of, initial_of, is_killed, is_open, open_at, shown_of, start_in, starts_at, start_of, state_of}
use Rattle.smi_journal_entries.proofs.OneMore.{open_more, shown_more, starts_more, state_more}
use Rattle.smi_interp.specs.Task.{TaskView, task_begun}
use Rattle.smi_mail_plain.specs.Boxes.{PlainView, taken_at, waiting_at}
use Rattle.smi_board.specs.Boards.{BoardView, own_at, kept_at}
use Rattle.smi_board.specs.Starts.{Starts, entries_of, is_declared}
use Rattle.smi_board.specs.Turns.{IsOf}
use Rattle.smi_board.specs.declared.starting.Started.{Started}
use Rattle.smi_board.specs.declared.starting.Started.TheVariants.{Run, Perform, Skipped}
use Rattle.smi_board.specs.Refusals.{start_refusal, IsStartError}
use Rattle.smi_board.specs.declared.errors.StartError.{StartError}
use Rattle.smi_board.specs.declared.errors.StartError.TheVariants as start
use Rattle.smi_board.proofs.Sent.{either_way}
use Rattle.smi_board.proofs.Ties.{no_requests}
use Rattle.smi_world.specs.declared.step.Answer.{Answer}
use Rattle.smi_world.specs.declared.step.Answer.TheVariants.{Entries}
use Rattle.smi_world.specs.declared.step.Step.TheVariants as step
use Rattle.smi_world.specs.World.{Setup, World, BeginRequests, IsLeast, IsNextRequest, queue, turned, waiting}
use Rattle.smi_world.specs.Steps.{world_begun as begun_world, refusal, IsRefusal}
use Rattle.smi_world.specs.declared.refusal.StepError.{StepError}
use Rattle.smi_core.specs.Errors.{start_error}
use Rattle.smi_world.proofs.Lists.{at_end}
use Rattle.smi_world.proofs.Ranks.{behind_next, behind_least}
use Rattle.smi_core.specs.Machines.{Tasks, HasTask, HaveTasks, either_task, moves_in, moves_at, queue_in, setup_of, world_of}
use Rattle.smi_core.specs.Stepping.{Steps}
use Rattle.smi_core.specs.Told.{BoardIsTold, HaveTheirs}
use Rattle.smi_core.proofs.Closed.{none_where_closed, refused_same, told_as_entries}
use Rattle.smi_core.proofs.Refusing.{start_free, start_refused}
use Rattle.smi_core.proofs.Tasks.{Others, SameElsewhere, others_more, others_one, have_after, has_beside, has_device, has_none, written_elsewhere, written_here}
use Rattle.smi_core.proofs.Worlds.{arrived_same, listed_of, queue_is, waiting_is, world_turned, worlds_same}
use Rattle.smi_core.proofs.Listed.{listed_set}
use Rattle.smi_core.specs.Listed.{listed_below}

-- ---- the request that was started

module _ (b : BoardView PlainView) (tasks : Tasks) (o : ℕ) (told : BoardIsTold b) (lt : o < length b.domain.objects) (r : Request) (rest : List Request) (first : waiting_at b.mail o ≡ r ∷ rest) where
  abbrev w : World
  w = world_of b tasks

  -- what was accepted is what was started, then this one and the rest
  queue_split : queue o w ≡ starts_at o b.journal ++ r ∷ rest
  queue_split = queue_is b tasks o lt ∙ ap (λ xs. xs ++ waiting_at b.mail o) (told.tied.taken_is o) ∙ ap (λ xs. starts_at o b.journal ++ xs) first

  front : BeginRequests (starts_at o w.journal) (queue o w)
  front = (r ∷ rest, sym queue_split)

  stands : slice_get (queue o w) (length (starts_at o w.journal)) ≡ Some r
  stands = ap (λ q. slice_get q (length (starts_at o b.journal))) queue_split ∙ at_end (starts_at o b.journal) (r ∷ rest)

  pub is_next : IsNextRequest w o (length (starts_at o w.journal)) r
  is_next = behind_next w o r front stands

  pub is_least : IsLeast w o (length (starts_at o w.journal))
  is_least = behind_least w o front

-- ---- the world after it

runs_from : (d : Domain) (o s a : ℕ) → is_some (block_at d o s a) ≡ true → is_some (program_at d o s a) ≡ true
runs_from d o s a is = go (block_at d o s a) is
  where
    go : (x : Option ℕ) → is_some x ≡ true → is_some (option_map (tree_of_block d) x) ≡ true
    go None e = absurd (true≢false (sym e))
    go (Some x) e = refl

runs_none : (d : Domain) (o s a : ℕ) → is_some (block_at d o s a) ≡ false → program_at d o s a ≡ None
runs_none d o s a is = go (block_at d o s a) is
  where
    go : (x : Option ℕ) → is_some x ≡ false → option_map (tree_of_block d) x ≡ None
    go None e = refl
    go (Some x) e = absurd (true≢false e)

began : {P : Type 0} → (x : Option P) (w : World) (o : ℕ) (e : Entry) → is_some x ≡ true → begun_world x w o e ≡ turned w o e
began None w o e is = absurd (true≢false (sym is))
began (Some p) w o e is = refl

-- the queues after a start
module _ (b b2 : BoardView PlainView) (o : ℕ) (l : Letter) (es : List Entry) (told : BoardIsTold b) (told2 : BoardIsTold b2) (entries : b2.journal ≡ b.journal ++ start_of o l ∷ es) (quiet : (x : ℕ) → starts_at x es ≡ []) (first : waiting_at b.mail o ≡ request_of l ∷ waiting_at b2.mail o)
    (others : (x : ℕ) → x ≢ o → waiting_at b2.mail x ≡ waiting_at b.mail x) where
  starts_after : (x : ℕ) → starts_at x b2.journal ≡ starts_at x b.journal ++ cond (x == o) (request_of l ∷ []) []
  starts_after x =
      ap (starts_at x) (entries ∙ sym (append_assoc b.journal (start_of o l ∷ []) es))
      ∙ flat_map-append (start_in x) (b.journal ++ start_of o l ∷ []) es ∙ ap (λ rs. starts_at x (b.journal ++ start_of o l ∷ []) ++ rs) (quiet x)
      ∙ append-nil (starts_at x (b.journal ++ start_of o l ∷ [])) ∙ starts_more x b.journal (start_of o l)

  pub same_queues : (x : ℕ) → x < length b.domain.objects → queue_in b2.mail x ≡ queue_in b.mail x
  same_queues x lt = ⊎_elim
      (λ (at : x ≡ o). subst (λ y. queue_in b2.mail y ≡ queue_in b.mail y) (sym at)
      (ap (λ t. t ++ waiting_at b2.mail o) (told2.tied.taken_is o ∙ starts_after o ∙ ap (λ c. starts_at o b.journal ++ cond c (request_of l ∷ []) []) (eq-eqb o o refl) ∙ ap (λ t. t ++ request_of l ∷ []) (sym (told.tied.taken_is o)))
      ∙ append_assoc (taken_at b.mail o) (request_of l ∷ []) (waiting_at b2.mail o) ∙ ap (λ q. taken_at b.mail o ++ q) (sym first)))
      (λ apart. ap (λ t. t ++ waiting_at b2.mail x) (told2.tied.taken_is x ∙ starts_after x ∙ ap (λ c. starts_at x b.journal ++ cond c (request_of l ∷ []) []) (ne_eqb x o apart) ∙ append-nil (starts_at x b.journal) ∙ sym (told.tied.taken_is x))
      ∙ ap (λ q. taken_at b.mail x ++ q) (others x apart))
      (cases_eq x o)

-- ---- what was started

-- nothing is open where a start is free
free_open : (a k p : Bool) → cond a (Some start.Limit) (cond k (Some start.Dead) (cond p (Some start.AlreadyOpen) None)) ≡ None → p ≡ false
free_open true k p e = absurd (cc e)
free_open false true p e = absurd (cc e)
free_open false false true e = absurd (cc e)
free_open false false false e = refl

pub run_is : (c a : Bool) (act : ℕ) (args : List Value) (t t0 : TaskView) → Run t ≡ cond c (cond a (Perform act args) (Run t0)) Skipped → (c ≡ true) × (a ≡ false) × (t ≡ t0)
run_is true true act args t t0 e = absurd (cc e)
run_is true false act args t t0 e = (refl, refl, cc)
run_is false a act args t t0 e = absurd (cc e)

pub perform_is : (c a : Bool) (act x : ℕ) (args ys : List Value) (t0 : TaskView) → Perform x ys ≡ cond c (cond a (Perform act args) (Run t0)) Skipped → (c ≡ true) × (a ≡ true)
perform_is true true act x args ys t0 e = (refl, refl)
perform_is true false act x args ys t0 e = absurd (cc e)
perform_is false a act x args ys t0 e = absurd (cc e)

pub skipped_is : (c a : Bool) (act : ℕ) (args : List Value) (t0 : TaskView) → Skipped ≡ cond c (cond a (Perform act args) (Run t0)) Skipped → c ≡ false
skipped_is true true act args t0 e = absurd (cc e)
skipped_is true false act args t0 e = absurd (cc e)
skipped_is false a act args t0 e = refl

no_starts : (x o : ℕ) → starts_at x (entry.End o Skip ∷ []) ≡ []
no_starts x o = go (x == o)
  where
    go : (c : Bool) → cond c [] [] ++ [] ≡ no_requests
    go true = refl
    go false = refl

module _ (b b2 : BoardView PlainView) (tasks : Tasks) (x : List ℕ) (o : ℕ) (l : Letter) (told : BoardIsTold b) (told2 : BoardIsTold b2) (h : HaveTheirs b tasks) (lt : o < length b.domain.objects) (named : Some o ≡ object_named b.domain x) (free : start_refusal b.most b.journal o ≡ None)
    (number : l.number ≡ length (from_sender l.sender (starts_at o b.journal))) (first : waiting_at b.mail o ≡ request_of l ∷ waiting_at b2.mail o) (others : (y : ℕ) → y ≢ o → waiting_at b2.mail y ≡ waiting_at b.mail y)
    (domain : b2.domain ≡ b.domain) (most : b2.most ≡ b.most) (capacity : b2.mail.capacity ≡ b.mail.capacity) (params : b2.params ≡ b.params) (kept : b2.kept ≡ b.kept) where
  abbrev m : Setup
  m = setup_of b

  -- the entry of the start, by its request
  abbrev e : Entry
  e = entry.Start o l.sender (length (from_sender l.sender (starts_at o b.journal))) l.action l.args

  entry_is : start_of o l ≡ e
  entry_is = ap (λ n. entry.Start o l.sender n l.action l.args) number

  some_waits : (waiting o (world_of b tasks) == 0) ≡ false
  some_waits = ap (λ n. n == 0) (waiting_is b tasks o lt (told.tied.taken_is o) ∙ ap length first) ∙ ne_eqb (length (request_of l ∷ waiting_at b2.mail o)) 0 (λ is. absurd (omega (arith, is)))

  free_step : refusal m (world_of b tasks) (step.Start x) ≡ None
  free_step = start_free m (world_of b tasks) x o (sym named) free some_waits

  limits_same : setup_of b2 ≡ m
  limits_same = λ i. record { domain = domain i; capacity = capacity i; max_starts = most i }

  -- what is begun, by the state of the object
  abbrev runs : Option Program
  runs = program_at b.domain o (state_of b.domain o b.journal) l.action

  makes : (front : List Entry) (a : Answer) (tasks2 : Tasks) → front ≡ b.journal → a ≡ Entries (length front) (length b2.journal - length front) → length b.journal ≤ length b2.journal → world_of b2 tasks2 ≡ begun_world runs (world_of b tasks) o e → HaveTheirs b2 tasks2 → Steps b tasks (step.Start x) (Ok a) b2 tasks2
  makes front a tasks2 is answer longer after have = record {
    step = record {
      free = free_step;
      object = o;
      is_object = sym named;
      made = record {
        rank = length (starts_at o b.journal);
        request = request_of l;
        is_next = is_next b tasks o told lt (request_of l) (waiting_at b2.mail o) first;
        is_least = is_least b tasks o told lt (request_of l) (waiting_at b2.mail o) first;
        answer = record { count = length b2.journal - length b.journal; answer = told_as_entries a b.journal front b2.journal is answer; added = omega (arith, longer) };
        after = after;
      };
    };
    setup = limits_same;
    have = have;
  }

  closed_before : is_open o b.journal ≡ false
  closed_before = free_open (nat_le b.most (length (all_starts b.journal))) (is_killed o b.journal) (is_open o b.journal) free

  none_before : (kept_at tasks o ≡ None) × (kept_at b.kept o ≡ None)
  none_before = none_where_closed b tasks o told h lt closed_before

  same_but : (tasks2 : Tasks) → ((y : ℕ) → y ≢ o → kept_at tasks2 y ≡ kept_at tasks y) → length tasks2 ≡ length tasks → SameElsewhere o b.params b2.params b.kept b2.kept tasks tasks2
  same_but tasks2 beside count = record { own = λ y apart. ap (λ p. own_at p y) params; keeps = λ y apart. ap (λ k. kept_at k y) kept; beside = beside; count = count }

  -- where the entry of the start is the only one
  module _ (entries : b2.journal ≡ b.journal ++ start_of o l ∷ []) (declared : is_declared b.domain o b.journal l.action ≡ true) where
    one_longer : length b.journal ≤ length b2.journal
    one_longer = omega (arith, ap length entries, length-append b.journal (start_of o l ∷ []))

    one_world : (tasks2 : Tasks) → moves_at b2.kept tasks2 o ≡ [] → ((y : ℕ) → y ≢ o → kept_at tasks2 y ≡ kept_at tasks y) → world_of b2 tasks2 ≡ begun_world runs (world_of b tasks) o e
    one_world tasks2 none beside =
        world_turned b b2 tasks tasks2 domain e o lt (entries ∙ ap (λ y. b.journal ++ y ∷ []) entry_is) (same_queues b b2 o l [] told told2 entries (λ y. refl) first others) none
        (λ y below apart. ap (λ k. moves_in (either_task (kept_at tasks2 y) (kept_at k y))) kept ∙ ap (λ s. moves_in (either_task s (kept_at b.kept y))) (beside y apart))
        ∙ sym (began runs (world_of b tasks) o e (runs_from b.domain o (state_of b.domain o b.journal) l.action declared))

    opened_after : open_at o b2.journal ≡ Some l
    opened_after = ap (open_at o) entries ∙ open_more o b.journal (start_of o l) ∙ ap (λ c. cond c (Some l) (open_at o b.journal)) (eq-eqb o o refl)

    state_same : state_of b.domain o b2.journal ≡ state_of b.domain o b.journal
    state_same = ap (state_of b.domain o) entries ∙ state_more o (initial_of b.domain o) (dead_of b.domain o) b.journal (start_of o l) ∙ either_way (o == o) (state_of b.domain o b.journal)

    nothing_shown : shown_of b.domain o b2.journal ≡ []
    nothing_shown = ap (shown_of b.domain o) entries ∙ shown_more b.domain o b.journal (start_of o l) ∙ ap (λ c. cond c [] (shown_of b.domain o b.journal)) (eq-eqb o o refl)

    others_after : Others b.domain o b.journal b2.journal
    others_after = subst (Others b.domain o b.journal) (sym entries) (others_one b.domain o b.journal (start_of o l) refl)

    have_with : (tasks2 : Tasks) → ((y : ℕ) → y ≢ o → kept_at tasks2 y ≡ kept_at tasks y) → length tasks2 ≡ length tasks → HasTask b.domain b2.journal (own_at b2.params o) o (kept_at tasks2 o) (kept_at b2.kept o) → HaveTheirs b2 tasks2
    have_with tasks2 beside count here = subst (λ d. HaveTasks d b2.journal b2.params b2.kept tasks2) (sym domain)
        (have_after b.domain o b.journal b2.journal b.params b2.params b.kept b2.kept tasks tasks2 others_after (same_but tasks2 beside count) h here)

    -- a task runs it
    pub run_steps : (t : TaskView) (front : List Entry) (a : Answer) (tasks2 : Tasks) → associated_at b.domain o ≡ false → t ≡ task_begun b.domain o (state_of b.domain o b.journal) l (own_at b.params o) → tasks2 ≡ slice_set tasks o (Some t) → front ≡ b.journal → a ≡ Entries (length front) (length b2.journal - length front) → Steps b tasks (step.Start x) (Ok a) b2 tasks2
    run_steps t front a tasks2 logical is_begun put is answer = subst (λ z. Steps b tasks (step.Start x) (Ok a) b2 z) (sym put)
        (makes front a (slice_set tasks o (Some t)) is answer one_longer
        (one_world (slice_set tasks o (Some t)) (ap (λ s. moves_in (either_task s (kept_at b2.kept o))) here ∙ ap (λ (y : TaskView). y.turn.moves) is_begun) (written_elsewhere tasks o (Some t)))
        (have_with (slice_set tasks o (Some t)) (written_elsewhere tasks o (Some t)) (length-set tasks o (Some t))
        (has_beside b.domain b2.journal (own_at b2.params o) o t (kept_at (slice_set tasks o (Some t)) o) (kept_at b2.kept o) here (ap (λ k. kept_at k o) kept ∙ none_before.1)
        (subst (IsOf b.domain b2.journal (own_at b2.params o) o) (sym is_begun) (record {
          domain = refl;
          object = refl;
          turn = record { logical = logical; opened = opened_after; state = sym state_same; params = ap (λ p. own_at p o) (sym params); answers = sym (ap (map answer_of) nothing_shown) };
        })))))
      where
        here : kept_at (slice_set tasks o (Some t)) o ≡ Some t
        here = written_here tasks o (Some t) (omega (arith, lt, h.count))

    -- a device performs it
    pub perform_steps : (front : List Entry) (a : Answer) → associated_at b.domain o ≡ true → front ≡ b.journal → a ≡ Entries (length front) (length b2.journal - length front) → Steps b tasks (step.Start x) (Ok a) b2 tasks
    perform_steps front a device is answer = makes front a tasks is answer one_longer
        (one_world tasks (ap (λ s. moves_in (either_task s (kept_at b2.kept o))) none_before.0 ∙ ap (λ k. moves_in (kept_at k o)) kept ∙ ap moves_in none_before.1) (λ y apart. refl))
        (have_with tasks (λ y apart. refl) refl (has_device b.domain b2.journal (own_at b2.params o) o (kept_at tasks o) (kept_at b2.kept o) device none_before.0 (ap (λ k. kept_at k o) kept ∙ none_before.1)))

-- ---- a start that is skipped

module _ (b b2 : BoardView PlainView) (tasks : Tasks) (x : List ℕ) (o : ℕ) (l : Letter) (told : BoardIsTold b) (told2 : BoardIsTold b2) (h : HaveTheirs b tasks) (lt : o < length b.domain.objects) (named : Some o ≡ object_named b.domain x) (free : start_refusal b.most b.journal o ≡ None)
    (number : l.number ≡ length (from_sender l.sender (starts_at o b.journal))) (first : waiting_at b.mail o ≡ request_of l ∷ waiting_at b2.mail o) (others : (y : ℕ) → y ≢ o → waiting_at b2.mail y ≡ waiting_at b.mail y)
    (domain : b2.domain ≡ b.domain) (most : b2.most ≡ b.most) (capacity : b2.mail.capacity ≡ b.mail.capacity) (params : b2.params ≡ b.params) (kept : b2.kept ≡ b.kept)
    (entries : b2.journal ≡ b.journal ++ start_of o l ∷ entry.End o Skip ∷ []) (undeclared : is_declared b.domain o b.journal l.action ≡ false) where
  abbrev s : Entry
  s = entry.Start o l.sender (length (from_sender l.sender (starts_at o b.journal))) l.action l.args

  abbrev skip : Entry
  skip = entry.End o Skip

  two : b2.journal ≡ (b.journal ++ start_of o l ∷ []) ++ skip ∷ []
  two = entries ∙ sym (append_assoc b.journal (start_of o l ∷ []) (skip ∷ []))

  no_tasks : (kept_at tasks o ≡ None) × (kept_at b.kept o ≡ None)
  no_tasks = none_before b b2 tasks x o l told told2 h lt named free number first others domain most capacity params kept

  moves_none : moves_at b2.kept tasks o ≡ []
  moves_none = ap (λ z. moves_in (either_task z (kept_at b2.kept o))) no_tasks.0 ∙ ap (λ k. moves_in (kept_at k o)) kept ∙ ap moves_in no_tasks.1

  skipped_world : world_of b2 tasks ≡ turned (turned (world_of b tasks) o s) o skip
  skipped_world = worlds_same
      (two ∙ ap (λ y. (b.journal ++ y ∷ []) ++ skip ∷ []) (ap (λ n. entry.Start o l.sender n l.action l.args) number))
      (arrived_same b b2 tasks tasks domain (same_queues b b2 o l (skip ∷ []) told told2 entries (λ y. no_starts y o) first others))
      (listed_of b2.domain b.domain (moves_at b2.kept tasks) domain ∙ listed_set (length b.domain.objects) (moves_at b.kept tasks) (moves_at b2.kept tasks) o [] lt moves_none (λ y below apart. ap (λ k. moves_in (either_task (kept_at tasks y) (kept_at k y))) kept)
      ∙ sym (set-set (listed_below (length b.domain.objects) (moves_at b.kept tasks)) o [] []))

  closed_after : open_at o b2.journal ≡ None
  closed_after = ap (open_at o) two ∙ open_more o (b.journal ++ start_of o l ∷ []) skip ∙ ap (λ c. cond c None (open_at o (b.journal ++ start_of o l ∷ []))) (eq-eqb o o refl)

  others_two : Others b.domain o b.journal b2.journal
  others_two = subst (Others b.domain o b.journal) (sym two) (others_more b.domain o b.journal (b.journal ++ start_of o l ∷ []) skip refl (others_one b.domain o b.journal (start_of o l) refl))

  pub skip_steps : (front : List Entry) (a : Answer) → front ≡ b.journal → a ≡ Entries (length front) (length b2.journal - length front) → Steps b tasks (step.Start x) (Ok a) b2 tasks
  skip_steps front a is answer =
      makes b b2 tasks x o l told told2 h lt named free number first others domain most capacity params kept front a tasks is answer (omega (arith, ap length entries, length-append b.journal (start_of o l ∷ skip ∷ [])))
      (skipped_world ∙ ap (λ p. begun_world p (world_of b tasks) o s) (sym (runs_none b.domain o (state_of b.domain o b.journal) l.action undeclared)))
      (subst (λ d. HaveTasks d b2.journal b2.params b2.kept tasks) (sym domain)
      (have_after b.domain o b.journal b2.journal b.params b2.params b.kept b2.kept tasks tasks others_two
      (record { own = λ y apart. ap (λ p. own_at p y) params; keeps = λ y apart. ap (λ k. kept_at k y) kept; beside = λ y apart. refl; count = refl }) h
      (has_none b.domain b2.journal (own_at b2.params o) o (kept_at tasks o) (kept_at b2.kept o) closed_after no_tasks.0 (ap (λ k. kept_at k o) kept ∙ no_tasks.1))))

-- ---- the same, of what the board returned

same_list : (xs ys : List Request) → Some xs ≡ Some ys → xs ≡ ys
same_list xs ys e = cc

module _ (b b2 : BoardView PlainView) (tasks : Tasks) (x : List ℕ) (o : ℕ) (r : Started) (told : BoardIsTold b) (told2 : BoardIsTold b2) (h : HaveTheirs b tasks) (lt : o < length b.domain.objects) (named : Some o ≡ object_named b.domain x) (free : start_refusal b.most b.journal o ≡ None)
    (starts : Starts b.domain o (own_at b.params o) b.journal b2.journal (Some (waiting_at b.mail o)) (Some (waiting_at b2.mail o)) r) (others : (y : ℕ) → y ≢ o → Some (waiting_at b2.mail y) ≡ Some (waiting_at b.mail y))
    (domain : b2.domain ≡ b.domain) (most : b2.most ≡ b.most) (capacity : b2.mail.capacity ≡ b.mail.capacity) (params : b2.params ≡ b.params) (kept : b2.kept ≡ b.kept) where
  abbrev letter : Letter
  letter = starts.letter

  first_is : waiting_at b.mail o ≡ request_of letter ∷ waiting_at b2.mail o
  first_is = same_list (waiting_at b.mail o) (request_of letter ∷ waiting_at b2.mail o) starts.first

  others_are : (y : ℕ) → y ≢ o → waiting_at b2.mail y ≡ waiting_at b.mail y
  others_are y apart = same_list (waiting_at b2.mail y) (waiting_at b.mail y) (others y apart)

  pub run_started : (t : TaskView) (front : List Entry) (a : Answer) (tasks2 : Tasks) → r ≡ Run t → tasks2 ≡ slice_set tasks o (Some t) → front ≡ b.journal → a ≡ Entries (length front) (length b2.journal - length front) → Steps b tasks (step.Start x) (Ok a) b2 tasks2
  run_started t front a tasks2 is put at answer =
      let known = run_is (is_declared b.domain o b.journal letter.action) (associated_at b.domain o) letter.action letter.args t (task_begun b.domain o (state_of b.domain o b.journal) letter (own_at b.params o)) (sym is ∙ starts.gives) in
      run_steps b b2 tasks x o letter told told2 h lt named free starts.number first_is others_are domain most capacity params kept (starts.entries ∙ ap (λ s. b.journal ++ entries_of o letter s) is) known.0 t front a tasks2 known.1 known.2 put at answer

  pub perform_started : (act : ℕ) (args : List Value) (front : List Entry) (a : Answer) → r ≡ Perform act args → front ≡ b.journal → a ≡ Entries (length front) (length b2.journal - length front) → Steps b tasks (step.Start x) (Ok a) b2 tasks
  perform_started act args front a is at answer =
      let known = perform_is (is_declared b.domain o b.journal letter.action) (associated_at b.domain o) letter.action act letter.args args (task_begun b.domain o (state_of b.domain o b.journal) letter (own_at b.params o)) (sym is ∙ starts.gives) in
      perform_steps b b2 tasks x o letter told told2 h lt named free starts.number first_is others_are domain most capacity params kept (starts.entries ∙ ap (λ s. b.journal ++ entries_of o letter s) is) known.0 front a known.1 at answer

  pub skipped_started : (front : List Entry) (a : Answer) → r ≡ Skipped → front ≡ b.journal → a ≡ Entries (length front) (length b2.journal - length front) → Steps b tasks (step.Start x) (Ok a) b2 tasks
  skipped_started front a is at answer =
      let undeclared = skipped_is (is_declared b.domain o b.journal letter.action) (associated_at b.domain o) letter.action letter.args (task_begun b.domain o (state_of b.domain o b.journal) letter (own_at b.params o)) (sym is ∙ starts.gives) in
      skip_steps b b2 tasks x o letter told told2 h lt named free starts.number first_is others_are domain most capacity params kept (starts.entries ∙ ap (λ z. b.journal ++ entries_of o letter z) is) undeclared front a at answer

-- ---- nothing was started

pub start_errs : (b b2 : BoardView PlainView) (tasks : Tasks) (x : List ℕ) (o : ℕ) (why : StartError) (e : StepError) → BoardIsTold b → HaveTheirs b tasks → o < length b.domain.objects → Some o ≡ object_named b.domain x → IsStartError (start_refusal b.most b.journal o) why → (why ≡ start.Empty → waiting_at b.mail o ≡ []) → b2 ≡ b → e ≡ start_error why → Steps b tasks (step.Start x) (Err e) b2 tasks
start_errs b b2 tasks x o why e told h lt named refused empty same is =
    refused_same b b2 tasks (step.Start x) e same
    (subst (IsRefusal (setup_of b) (world_of b tasks) (step.Start x)) (sym is) (start_refused (setup_of b) (world_of b tasks) x o (sym named) why refused (λ is_empty. ap (λ n. n == 0) (waiting_is b tasks o lt (told.tied.taken_is o) ∙ ap length (empty is_empty)) ∙ eq-eqb 0 0 refl))) h
