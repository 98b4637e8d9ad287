-- How the open action of an object continues, from the answers of a board to the steps of the world.
use Rattle.std.proofs.Common.{◌≡◌, ◌≢◌, ◌<◌, ℕ, true, List, [], ◌∷◌, ◌++◌, length, map, Option, Some, None, IfSome, Ok, refl, sym, ap, ◌∙◌, subst, arith, ⊎_elim, inl, append-nil}
use Rattle.std.specs.Prelude.{slice_set, is_some}
use Rattle.std.proofs.lemmas.Bool.{cases_eq}
use Rattle.std.proofs.lemmas.List.{length-set, map-append}
use Rattle.sml_domain.specs.declared.value.Value.{Value}
use Rattle.sml_domain.specs.Domain.{Domain}
use Rattle.sml_domain.specs.Program.{Program}
use Rattle.smi_journal_entries.specs.declared.journal.Format.TheVariants.{Two}
use Rattle.smi_journal_entries.specs.declared.entry.Entry.{Entry}
use Rattle.smi_journal_entries.specs.Words.{answer_of, is_open, open_at, shown_of, state_of}
use Rattle.smi_meaning.specs.Meaning.{Move, DidSet, Outcome, Means}
use Rattle.smi_meaning.specs.Environment.{Env}
use Rattle.smi_meaning.specs.Params.{ParamsAfter, env_of}
use Rattle.smi_meaning.specs.Shown.{items_of, shown_moves}
use Rattle.smi_meaning.specs.Steps.{Leads}
use Rattle.smi_meaning.proofs.Showing.{shown-append}
use Rattle.smi_interp.specs.Turn.{TurnView}
use Rattle.smi_interp.specs.Task.{TaskView, HasLeft, IsNextContact, LeftNames, MayMake, body, env_before, env_now, shown}
use Rattle.smi_mail_plain.specs.Boxes.{PlainView}
use Rattle.smi_interp.specs.declared.contact.Contact.{Contact}
use Rattle.smi_interp.specs.declared.contact.Contact.TheVariants as named
use Rattle.smi_board.specs.Boards.{BoardView, IsLed, own_at, kept_at}
use Rattle.smi_board.specs.Turns.{IsItsTurn, IsOf}
use Rattle.smi_board.proofs.Out.{is_shown, run_of}
use Rattle.smi_world.specs.declared.step.Answer.TheVariants.{Changed}
use Rattle.smi_world.specs.World.{Setup, World, moves_of}
use Rattle.smi_world.specs.Moves.{Runs, MayMove}
use Rattle.smi_core.specs.Machines.{Tasks, either_task, moves_in, moves_at, queue_in, setup_of, world_of}
use Rattle.smi_core.specs.Told.{BoardIsTold, TaskIsTaken, CoreGoes, Stays, with_task}
use Rattle.smi_core.proofs.Worlds.{moves_are, world_kept, world_moved}
use Rattle.smi_core.proofs.Tasks.{SameElsewhere, others_self, written_elsewhere, written_here, have_after, has_beside}

-- ---- what a task that is out says of its object

-- what runs at an object, and some moves of it with a meaning
pub record MayGo (d : Domain) (J : List Entry) (o : ℕ) (moves : List Move) : Type 0 where
  pub action : Runs d J o
  pub more : List Move
  pub env : Env
  pub outcome : Outcome
  pub means : Means d action.run.program (env_of action.own action.run) (moves ++ more) env outcome

-- the same of whole moves
pub record IsWhole (d : Domain) (J : List Entry) (o : ℕ) (moves : List Move) (r : Outcome) : Type 0 where
  pub action : Runs d J o
  pub env : Env
  pub means : Means d action.run.program (env_of action.own action.run) moves env r

-- what runs at an object, and what some moves of it lead to
pub record RunsLeft (d : Domain) (J : List Entry) (o : ℕ) (moves : List Move) (left : Program) (env : Env) : Type 0 where
  pub action : Runs d J o
  pub leads : Leads d action.run.program (env_of action.own action.run) moves left env

-- what a task knows, at its own domain and object
record Knows (J : List Entry) (own : List Value) (t : TaskView) : Type 0 where
  params : ParamsAfter Two t.domain t.turn.object J own
  led : IsLed t.domain J own t.turn.object
  turn : IsItsTurn t.domain J own t.turn

abbrev knows_runs : (J : List Entry) (own : List Value) (t : TaskView) (left : Program) → Knows J own t → HasLeft t left → Runs t.domain J t.turn.object
knows_runs J own t left k has =
    let shown = is_shown J own t left k.params k.led k.turn has in
    record { own = t.turn.start; params = shown.params; run = run_of t; runs = shown.runs }

may_here : (J : List Entry) (own : List Value) (t : TaskView) (left : Program) (moves : List Move) → Knows J own t → HasLeft t left → MayMake t moves → MayGo t.domain J t.turn.object moves
may_here J own t left moves k has may = record { action = knows_runs J own t left k has; more = may.0; env = may.1; outcome = may.2; means = may.3 }

whole_here : (J : List Entry) (own : List Value) (t : TaskView) (left : Program) (r : Outcome) → Knows J own t → HasLeft t left → Means t.domain (body t) (env_before t) t.turn.moves (env_now t) r → IsWhole t.domain J t.turn.object t.turn.moves r
whole_here J own t left r k has means = record { action = knows_runs J own t left k has; env = env_now t; means = means }

left_here : (J : List Entry) (own : List Value) (t : TaskView) (left : Program) → Knows J own t → HasLeft t left → RunsLeft t.domain J t.turn.object t.turn.moves left (env_now t)
left_here J own t left k has = record { action = knows_runs J own t left k has; leads = has }

-- from the task's domain and object to others that are the same
moved_to : (P : Domain → ℕ → Type 0) (d : Domain) (o : ℕ) (t : TaskView) → t.domain ≡ d → t.turn.object ≡ o → P t.domain t.turn.object → P d o
moved_to P d o t p q h = subst (λ x. P x o) p (subst (P t.domain) q h)

moved_from : (P : Domain → ℕ → Type 0) (d : Domain) (o : ℕ) (t : TaskView) → t.domain ≡ d → t.turn.object ≡ o → P d o → P t.domain t.turn.object
moved_from P d o t p q h = subst (P t.domain) (sym q) (subst (λ x. P x o) (sym p) h)

module _ (b : BoardView PlainView) (o : ℕ) (t : TaskView) (told : BoardIsTold b) (lt : o < length b.domain.objects) (is : IsOf b.domain b.journal (own_at b.params o) o t) where
  abbrev own : List Value
  own = own_at b.params o

  knows : Knows b.journal own t
  knows = record {
    params = moved_from (λ d x. ParamsAfter Two d x b.journal own) b.domain o t is.domain is.object (told.tied.own o lt);
    led = moved_from (λ d x. IsLed d b.journal own x) b.domain o t is.domain is.object (told.runs o opened);
    turn = subst (λ d. IsItsTurn d b.journal own t.turn) (sym is.domain) is.turn;
  }
    where
      opened : is_open o b.journal ≡ true
      opened = subst (λ x. is_open x b.journal ≡ true) is.object (ap is_some is.turn.opened)

  pub may_go : (left : Program) (moves : List Move) → HasLeft t left → MayMake t moves → MayGo b.domain b.journal o moves
  may_go left moves has may = moved_to (λ d x. MayGo d b.journal x moves) b.domain o t is.domain is.object (may_here b.journal own t left moves knows has may)

  pub runs_left : (left : Program) → HasLeft t left → RunsLeft b.domain b.journal o t.turn.moves left (env_now t)
  runs_left left has = moved_to (λ d x. RunsLeft d b.journal x t.turn.moves left (env_now t)) b.domain o t is.domain is.object (left_here b.journal own t left knows has)

  pub is_whole : (left : Program) (r : Outcome) → HasLeft t left → Means t.domain (body t) (env_before t) t.turn.moves (env_now t) r → IsWhole b.domain b.journal o t.turn.moves r
  is_whole left r has means = moved_to (λ d x. IsWhole d b.journal x t.turn.moves r) b.domain o t is.domain is.object (whole_here b.journal own t left r knows has means)

-- so a world has the next move
pub may_move : (m : Setup) (w : World) (o : ℕ) (moves : List Move) (x : Move) → moves_of o w ≡ moves → MayGo m.domain w.journal o (moves ++ x ∷ []) → MayMove m w o x
may_move m w o moves x are h = record {
  action = h.action;
  begins = (h.more, h.env, h.outcome, subst (λ ms. Means m.domain h.action.run.program (env_of h.action.own h.action.run) ((ms ++ x ∷ []) ++ h.more) h.env h.outcome) (sym are) h.means);
}

-- ---- the task that was taken from its place

module _ (b : BoardView PlainView) (t : TaskView) (rest : Tasks) (h : TaskIsTaken b t rest) where
  abbrev o : ℕ
  o = t.turn.object

  abbrev tasks : Tasks
  tasks = with_task rest t

  below : o < length rest
  below = omega (arith, h.within, h.have.count, length-set rest o (Some t))

  pub beside : kept_at (with_task rest t) t.turn.object ≡ Some t
  beside = written_here rest o (Some t) below

  -- it is that of the open action, and the board keeps none
  pub taken_out : IsOf b.domain b.journal (own_at b.params t.turn.object) t.turn.object t × (kept_at b.kept t.turn.object ≡ None)
  taken_out = subst (λ x. IfSome x (λ y. IsOf b.domain b.journal (own_at b.params o) o y × (kept_at b.kept o ≡ None))) beside (h.have.each o h.within).out

  pub taken_moves : moves_at b.kept (with_task rest t) t.turn.object ≡ t.turn.moves
  taken_moves = ap (λ x. moves_in (either_task x (kept_at b.kept o))) beside

  pub world_moves : moves_of t.turn.object (world_of b (with_task rest t)) ≡ t.turn.moves
  world_moves = moves_are b tasks o h.within ∙ taken_moves

  -- another task in its place, or none, changes nothing elsewhere
  pub rest_elsewhere : (x : ℕ) → x ≢ t.turn.object → kept_at rest x ≡ kept_at (with_task rest t) x
  rest_elsewhere x apart = sym (written_elsewhere rest o (Some t) x apart)

  pub put_elsewhere : (t2 : Option TaskView) (x : ℕ) → x ≢ t.turn.object → kept_at (slice_set rest t.turn.object t2) x ≡ kept_at (with_task rest t) x
  put_elsewhere t2 x apart = written_elsewhere rest o t2 x apart ∙ rest_elsewhere x apart

  pub put_here : (t2 : Option TaskView) → kept_at (slice_set rest t.turn.object t2) t.turn.object ≡ t2
  put_here t2 = written_here rest o t2 below

  pub put_count : (t2 : Option TaskView) → length (slice_set rest t.turn.object t2) ≡ length (with_task rest t)
  put_count t2 = length-set rest o t2 ∙ sym (length-set rest o (Some t))

  pub rest_count : length rest ≡ length (with_task rest t)
  rest_count = sym (length-set rest o (Some t))

  -- where the board keeps the same tasks, and another is put in its place
  pub same_but_put : (t2 : Option TaskView) (params2 : List (List Value)) (kept2 : List (Option TaskView)) → ((x : ℕ) → x ≢ t.turn.object → own_at params2 x ≡ own_at b.params x) → kept2 ≡ b.kept → SameElsewhere t.turn.object b.params params2 b.kept kept2 (with_task rest t) (slice_set rest t.turn.object t2)
  same_but_put t2 params2 kept2 same is = record {
    own = same;
    keeps = λ x apart. ap (λ k. kept_at k x) is;
    beside = put_elsewhere t2;
    count = put_count t2;
  }

  -- the moves of the others are what they were
  pub moves_elsewhere : (t2 : Option TaskView) (kept2 : List (Option TaskView)) → kept2 ≡ b.kept → (x : ℕ) → x ≢ t.turn.object → moves_at kept2 (slice_set rest t.turn.object t2) x ≡ moves_at b.kept (with_task rest t) x
  moves_elsewhere t2 kept2 is x apart = ap (λ k. moves_in (either_task (kept_at (slice_set rest o t2) x) (kept_at k x))) is ∙ ap (λ s. moves_in (either_task s (kept_at b.kept x))) (put_elsewhere t2 x apart)

  pub moves_put : (t2 : TaskView) (kept2 : List (Option TaskView)) → moves_at kept2 (slice_set rest t.turn.object (Some t2)) t.turn.object ≡ t2.turn.moves
  moves_put t2 kept2 = ap (λ s. moves_in (either_task s (kept_at kept2 o))) (put_here (Some t2))

-- a task that made one more move, which the journal shows
pub task_grown : (d : Domain) (J K : List Entry) (own : List Value) (t t2 : TaskView) (m : Move) → IsOf d J own t.turn.object t → t2.domain ≡ t.domain → t2.turn ≡ record t.turn { moves = t.turn.moves ++ m ∷ [] }
    → open_at t.turn.object K ≡ open_at t.turn.object J → state_of d t.turn.object K ≡ state_of d t.turn.object J → shown_of d t.turn.object K ≡ shown_of d t.turn.object J ++ items_of m
    → IsOf d K own t.turn.object t2
task_grown d J K own t t2 m is same turn opened state shown = record {
  domain = same ∙ is.domain;
  object = ap (λ (x : TurnView). x.object) turn;
  turn = subst (IsItsTurn d K own) (sym turn) (record {
    logical = is.turn.logical;
    opened = opened ∙ is.turn.opened;
    state = is.turn.state ∙ sym state;
    params = is.turn.params;
    answers =
        ap (map answer_of) (shown-append t.turn.moves (m ∷ []) ∙ ap (λ xs. shown_moves t.turn.moves ++ xs) (append-nil (items_of m)))
        ∙ map-append answer_of (shown_moves t.turn.moves) (items_of m)
        ∙ ap (λ xs. xs ++ map answer_of (items_of m)) is.turn.answers
        ∙ sym (ap (map answer_of) shown ∙ map-append answer_of (shown_of d t.turn.object J) (items_of m));
  });
}

-- ---- a set

module _ (b : BoardView PlainView) (t : TaskView) (rest : Tasks) (p : ℕ) (v : Value) (told : BoardIsTold b) (h : TaskIsTaken b t rest) (l : LeftNames t (named.Local p v)) (next : IsNextContact t (named.Local p v)) where
  abbrev at : ℕ
  at = t.turn.object

  abbrev x : Move
  x = DidSet p v

  abbrev t2 : TaskView
  t2 = shown t (named.Local p v)

  pub sets_goes : CoreGoes b (with_task rest t) t.turn.object (Ok (Changed p v)) b (with_task rest t2)
  sets_goes =
      let out = taken_out b t rest h in
      record {
        moves = inl (record {
          param = p;
          value = v;
          next = may_move (setup_of b) (world_of b (with_task rest t)) at t.turn.moves x (world_moves b t rest h) (may_go b at t told h.within out.0 l.left (t.turn.moves ++ x ∷ []) l.leads next);
          answer = refl;
          after = world_moved (length b.domain.objects) b.journal (queue_in b.mail) (moves_at b.kept (with_task rest t)) (moves_at b.kept (with_task rest t2)) at x h.within
              (moves_put b t rest h t2 b.kept ∙ ap (λ ms. ms ++ x ∷ []) (sym (taken_moves b t rest h))) (λ y lt. moves_elsewhere b t rest h (Some t2) b.kept refl y);
        });
        setup = refl;
        have = have_after b.domain at b.journal b.journal b.params b.params b.kept b.kept (with_task rest t) (with_task rest t2) (others_self b.domain at b.journal)
            (same_but_put b t rest h (Some t2) b.params b.kept (λ y apart. refl) refl) h.have
            (has_beside b.domain b.journal (own_at b.params at) at t2 (kept_at (with_task rest t2) at) (kept_at b.kept at) (put_here b t rest h (Some t2)) out.1
            (task_grown b.domain b.journal b.journal (own_at b.params at) t t2 x out.0 refl refl refl refl (sym (append-nil (shown_of b.domain at b.journal)))));
      }

-- ---- a contact that waits

-- the task whose contact waits for its answer
abbrev pub asking : TaskView → Contact → TaskView
asking t c = record t { pending = Some c }

pub asking_taken : (b : BoardView PlainView) (t : TaskView) (rest : Tasks) (c : Contact) → TaskIsTaken b t rest → TaskIsTaken b (asking t c) rest
asking_taken b t rest c h =
    let out = taken_out b t rest h in
    let o = t.turn.object in
    record {
      within = h.within;
      none = h.none;
      have = have_after b.domain o b.journal b.journal b.params b.params b.kept b.kept (with_task rest t) (with_task rest (asking t c)) (others_self b.domain o b.journal)
          (same_but_put b t rest h (Some (asking t c)) b.params b.kept (λ y apart. refl) refl) h.have
          (has_beside b.domain b.journal (own_at b.params o) o (asking t c) (kept_at (with_task rest (asking t c)) o) (kept_at b.kept o) (put_here b t rest h (Some (asking t c))) out.1
          (record { domain = out.0.domain; object = refl; turn = out.0.turn }));
    }

-- its world is the same
pub asking_stays : (b : BoardView PlainView) (t : TaskView) (rest : Tasks) (c : Contact) → TaskIsTaken b t rest → Stays b (with_task rest t) b (with_task rest (asking t c))
asking_stays b t rest c h =
    let o = t.turn.object in
    record {
      world = world_kept b b (with_task rest t) (with_task rest (asking t c)) refl refl (λ y lt. refl) (λ y lt. ⊎_elim
          (λ (at : y ≡ o). ap (moves_at b.kept (with_task rest (asking t c))) at ∙ moves_put b t rest h (asking t c) b.kept ∙ sym (ap (moves_at b.kept (with_task rest t)) at ∙ taken_moves b t rest h))
          (moves_elsewhere b t rest h (Some (asking t c)) b.kept refl y)
          (cases_eq y o));
      setup = refl;
    }
