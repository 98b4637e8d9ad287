-- For whom the open action of an object waits, from what its task waits for.
use Rattle.std.proofs.Common.{◌≡◌, ◌<◌, ◌⊎◌, ◌∙◌, ℕ, Bool, true, false, List, [], length, Option, Some, None, IfSome, inl, inr, refl, sym, ap, subst}
use Rattle.std.specs.Prelude.{is_some}
use Rattle.sml_domain.specs.Domain.{Domain}
use Rattle.sml_domain.specs.Lookups.{associated_at}
use Rattle.smi_journal_entries.specs.Sets.{sets_after}
use Rattle.smi_journal_entries.specs.Words.{is_open}
use Rattle.smi_meaning.specs.Params.{env_of}
use Rattle.smi_meaning.specs.Steps.{Leads}
use Rattle.smi_interp.specs.Expanded.{objects_by_names}
use Rattle.smi_interp.specs.Task.{TaskView, env_now}
use Rattle.smi_mail_plain.specs.Boxes.{PlainView}
use Rattle.smi_board.specs.Awaiting.{TaskWaitsFor, in_the_way}
use Rattle.smi_board.specs.Boards.{BoardView, own_at, kept_at}
use Rattle.smi_board.specs.Turns.{IsOf}
use Rattle.smi_world.specs.World.{World, moves_of}
use Rattle.smi_core.specs.Awaiting.{WaitsForAt}
use Rattle.smi_core.specs.Machines.{Tasks, either_task, moves_in, setup_of, world_of}
use Rattle.smi_core.specs.Told.{BoardIsTold, HaveTheirs}
use Rattle.smi_core.proofs.Moving.{runs_left}
use Rattle.smi_core.proofs.Worlds.{moves_are}

-- where there is no task, no action runs
no_task : (d : Domain) (w : World) (o : ℕ) (k : Option TaskView) → k ≡ None → (is_open o w.journal ≡ true → associated_at d o ≡ false → is_some k ≡ true) → (b c : Bool) → is_open o w.journal ≡ b → associated_at d o ≡ c
    → (is_open o w.journal ≡ false) ⊎ (associated_at d o ≡ true)
no_task d w o (Some t) e there b c p q = absurd (cc e)
no_task d w o None e there false c p q = inl p
no_task d w o None e there true true p q = inr q
no_task d w o None e there true false p q = absurd (cc (there p q))

-- the task of an object is that of its open action
is_own : (b : BoardView PlainView) (tasks : Tasks) (o : ℕ) (beside kept : Option TaskView) (t : TaskView) → either_task beside kept ≡ Some t
    → IfSome beside (λ x. IsOf b.domain b.journal (own_at b.params o) o x × (kept ≡ None)) → IfSome kept (IsOf b.domain b.journal (own_at b.params o) o)
    → IsOf b.domain b.journal (own_at b.params o) o t
is_own b tasks o (Some x) kept t e out k = subst (λ y. IsOf b.domain b.journal (own_at b.params o) o y) (cc e) out.0
is_own b tasks o None (Some x) t e out k = subst (λ y. IsOf b.domain b.journal (own_at b.params o) o y) (cc e) k
is_own b tasks o None None t e out k = absurd (cc e)

module _ (b : BoardView PlainView) (tasks : Tasks) (o : ℕ) (told : BoardIsTold b) (have : HaveTheirs b tasks) (lt : o < length b.domain.objects) where
  pub own_task : (t : TaskView) → either_task (kept_at tasks o) (kept_at b.kept o) ≡ Some t → IsOf b.domain b.journal (own_at b.params o) o t
  own_task t e = is_own b tasks o (kept_at tasks o) (kept_at b.kept o) t e (have.each o lt).out (told.kept.each o)

  pub waits_for_none : either_task (kept_at tasks o) (kept_at b.kept o) ≡ None → WaitsForAt (setup_of b) (world_of b tasks) o []
  waits_for_none e =
      inr (no_task b.domain (world_of b tasks) o (either_task (kept_at tasks o) (kept_at b.kept o)) e (have.each o lt).there (is_open o b.journal) (associated_at b.domain o) refl refl, refl)

  pub waits_for_these : (t : TaskView) (objects : List ℕ) → either_task (kept_at tasks o) (kept_at b.kept o) ≡ Some t → TaskWaitsFor b.domain b.journal t objects → WaitsForAt (setup_of b) (world_of b tasks) o objects
  waits_for_these t objects e h =
      let is = own_task t e in
      let run = runs_left b o t told lt is h.next.left h.next.leads in
      let moves : t.turn.moves ≡ moves_of o (world_of b tasks) = sym (moves_are b tasks o lt ∙ ap moves_in e) in
      inl (record {
        logical = subst (λ x. associated_at b.domain x ≡ false) is.object is.turn.logical;
        action = run.action;
        left = h.next.left;
        env = env_now t;
        leads = subst (λ ms. Leads b.domain run.action.run.program (env_of run.action.own run.action.run) ms h.next.left (env_now t)) moves run.leads;
        are = h.are ∙ ap (λ x. in_the_way b.journal x (objects_by_names b.domain (sets_after b.domain b.journal) h.names)) is.object
            ∙ ap (λ ns. in_the_way b.journal o (objects_by_names b.domain (sets_after b.domain b.journal) ns)) h.next.are;
      })
