-- Objects at which no start and no go changes anything.
use Rattle.std.proofs.Common.{◌≡◌, ◌<◌, ◌∙◌, ℕ, Bool, true, false, List, [], ◌∷◌, length, Option, Some, None, IfSome, Result, Ok, Err, refl, sym, ap, arith}
use Rattle.std.specs.Prelude.{is_some}
use Rattle.std.specs.List.{slice_index_or}
use Rattle.std.proofs.lemmas.List.{get_or_default}
use Rattle.sml_domain.specs.Lookups.{associated_at, object_named}
use Rattle.smi_journal_entries.specs.Words.{is_open}
use Rattle.smi_interp.specs.Task.{TaskView, IsNextContact, LeftNames}
use Rattle.smi_mail_plain.specs.Boxes.{PlainView, waiting_at}
use Rattle.smi_board.specs.Boards.{BoardView, kept_at}
use Rattle.smi_board.specs.Refusals.{IsStartError, start_refusal}
use Rattle.smi_board.specs.Turns.{can_go_on}
use Rattle.smi_board.specs.declared.errors.StartError.{StartError}
use Rattle.smi_board.specs.declared.errors.StartError.TheVariants as start
use Rattle.smi_world.specs.declared.step.Answer.{Answer}
use Rattle.smi_world.specs.declared.step.Answer.TheVariants.{Still}
use Rattle.smi_world.specs.declared.step.Step.TheVariants as step
use Rattle.smi_world.specs.declared.refusal.StepError.{StepError}
use Rattle.smi_world.specs.World.{Setup, World}
use Rattle.smi_world.specs.Steps.{IsRefusal, Makes, StepsTo}
use Rattle.smi_world.proofs.One.{run_one}
use Rattle.smi_core.specs.Errors.{start_error}
use Rattle.smi_core.specs.Machines.{Tasks, setup_of, world_of}
use Rattle.smi_core.specs.Stepping.{RestsAt}
use Rattle.smi_core.specs.Told.{BoardIsTold, HaveTheirs}
use Rattle.smi_core.proofs.Closed.{goes_steps}
use Rattle.smi_core.proofs.Refusing.{go_associated, go_closed}
use Rattle.smi_core.proofs.Started.{start_errs}
use Rattle.smi_core.proofs.Taking.{still_goes}

-- a start that is refused for such a cause is not made
no_start : (m : Setup) (w : World) (x : List ℕ) (why : StartError) → (why ≡ start.Memory → ⊥)
    → IsRefusal m w (step.Start x) (start_error why)
    → (a : Answer) (w2 : World) → Makes m w (step.Start x) a w2 → ⊥
no_start m w x start.Memory known is a w2 h = known refl
no_start m w x start.Limit known is a w2 h = absurd (cc (sym is ∙ h.free))
no_start m w x start.Dead known is a w2 h = absurd (cc (sym is ∙ h.free))
no_start m w x start.AlreadyOpen known is a w2 h = absurd (cc (sym is ∙ h.free))
no_start m w x start.Empty known is a w2 h = absurd (cc (sym is ∙ h.free))

-- where a go is answered that its action waits on, it is answered nothing else
one_go : (m : Setup) (w : World) (x : List ℕ) → StepsTo m w (step.Go x) (Ok Still) w
    → (a : Answer) (w2 : World) → Makes m w (step.Go x) a w2 → a ≡ Still
one_go m w x still a w2 h =
    let same = run_one m w (step.Go x ∷ []) (Ok Still ∷ []) (Ok a ∷ []) w w2 ((λ x. x), tt) ((λ x. x), tt)
    (w, still, refl) (w2, h, refl) in
    let answers : ◌≡◌ {A = List (Result Answer StepError)} (Ok Still ∷ []) (Ok a ∷ []) = same.0 in
    cc answers

-- no task of the object is beside the board, and the one that the board keeps, if any, cannot continue
module _ (b : BoardView PlainView) (tasks : Tasks) (o : ℕ) (told : BoardIsTold b) (have : HaveTheirs b tasks)
    (lt : o < length b.domain.objects) (none : kept_at tasks o ≡ None)
    (held : can_go_on b.domain o b.journal (kept_at b.kept o) ≡ false)
    (next : IfSome (kept_at b.kept o) (λ t. IfSome t.pending (IsNextContact t)))
    (left : IfSome (kept_at b.kept o) (λ t. IfSome t.pending (LeftNames t)))
    (x : List ℕ) (named : object_named b.domain x ≡ Some o) where
  abbrev m : Setup
  m = setup_of b

  abbrev w : World
  w = world_of b tasks

  go_rests : (device opened : Bool) → associated_at b.domain o ≡ device → is_open o b.journal ≡ opened
      → (a : Answer) (w2 : World) → Makes m w (step.Go x) a w2 → a ≡ Still
  go_rests true opened is shut a w2 h = absurd (cc (sym (go_associated m w x o named is) ∙ h.free))
  go_rests false false is shut a w2 h = absurd (cc (sym (go_closed m w x o named is shut) ∙ h.free))
  go_rests false true is opens a w2 h =
      one_go m w x (goes_steps b tasks x o (Ok Still) b tasks (sym named) is opens
      (still_goes b b tasks tasks o (none, held, have, record { world = refl; setup = refl }) told lt opens is
      next left)).step a w2 h

  pub rests : (why : StartError) → IsStartError (start_refusal b.most b.journal o) why
      → (why ≡ start.Empty → waiting_at b.mail o ≡ []) → (why ≡ start.Memory → ⊥) → RestsAt m w x
  rests why refused empty known = record {
    start = no_start m w x why known (start_errs b b tasks x o why (start_error why) told have lt (sym named) refused
        empty refl refl).step.0;
    go = go_rests (associated_at b.domain o) (is_open o b.journal) refl refl;
  }

-- no task stands at a place where none is found
pub none_there : (tasks : Tasks) (o i n : ℕ) (y : Option TaskView) → i ≡ o → y ≡ slice_index_or tasks i y
    → length tasks ≡ n → o < n → false ≡ is_some y → kept_at tasks o ≡ None
none_there tasks o i n y at there count lt e =
    sym (there ∙ ap (λ k. slice_index_or tasks k y) at
    ∙ get_or_default tasks o y None (omega (arith, lt, count))) ∙ is_none y e
  where
    is_none : (z : Option TaskView) → false ≡ is_some z → z ≡ None
    is_none None e = refl
    is_none (Some t) e = absurd (cc e)
