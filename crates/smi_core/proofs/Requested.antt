-- What a request makes of the world.
use Rattle.std.proofs.Common.{◌≡◌, ◌≢◌, ◌<◌, ℕ, List, [], ◌∷◌, ◌++◌, length, None, Result, Ok, Err, sym, ap, ◌∙◌, subst, append_assoc, ⊎_elim}
use Rattle.std.specs.Result.{IsErrAnd}
use Rattle.std.proofs.lemmas.Bool.{cases_eq}
use Rattle.smi_journal_entries.specs.Words.{is_killed}
use Rattle.smi_world.specs.World.{waiting}
use Rattle.sml_domain.specs.declared.value.Value.{Value}
use Rattle.sml_domain.specs.Domain.{Domain}
use Rattle.sml_domain.specs.Completing.{Passed}
use Rattle.smi_journal_entries.specs.declared.addressing.AddressError.{AddressError}
use Rattle.smi_journal_entries.specs.declared.letter.Letter.{Letter}
use Rattle.smi_journal_entries.specs.declared.entry.Sender.TheVariants.{Operator}
use Rattle.smi_journal_entries.specs.Addressing.{IsAddressed, IsAddressError, address_refusal}
use Rattle.smi_journal_entries.specs.Requests.{Request, from_sender}
use Rattle.smi_mail_plain.specs.Boxes.{PlainView, sent_at, taken_at, waiting_at}
use Rattle.smi_mail_plain.specs.Mails.{Same}
use Rattle.smi_board.specs.Boards.{BoardView}
use Rattle.smi_board.specs.Refusals.{request_refusal, IsRequestError}
use Rattle.smi_board.specs.declared.errors.RequestRefusal.{RequestRefusal}
use Rattle.smi_world.specs.declared.step.Answer.{Answer}
use Rattle.smi_world.specs.declared.step.Answer.TheVariants.{Accepted}
use Rattle.smi_world.specs.declared.step.Step.TheVariants as step
use Rattle.smi_world.specs.declared.refusal.StepError.{StepError}
use Rattle.smi_world.specs.Steps.{IsRefusal, step_error_of}
use Rattle.smi_core.specs.Errors.{request_error}
use Rattle.smi_core.specs.Machines.{Tasks, HaveTasks, moves_at, queue_in, setup_of, world_of}
use Rattle.smi_core.specs.Stepping.{Steps}
use Rattle.smi_core.specs.Told.{BoardIsTold, HaveTheirs}
use Rattle.smi_core.proofs.Closed.{refused}
use Rattle.smi_core.proofs.Refusing.{address_refused, request_free, request_refused}
use Rattle.smi_core.proofs.Worlds.{queue_is, waiting_is, world_grown, world_kept}

-- the request was not made
pub address_steps : (b : BoardView PlainView) (tasks : Tasks) (k : ℕ) (x y : List ℕ) (passed : List Passed) (d : Domain) → d ≡ b.domain → (why : AddressError) → IsAddressError (address_refusal d x y passed) why → (r : Result Answer StepError) → IsErrAnd r (λ e. e ≡ step_error_of why) → HaveTheirs b tasks
    → Steps b tasks (step.Request k x y passed) r b tasks
address_steps b tasks k x y passed d same why is (Ok a) gives h = absurd gives
address_steps b tasks k x y passed d same why is (Err e) gives h = refused b tasks (step.Request k x y passed) e
    (subst (IsRefusal (setup_of b) (world_of b tasks) (step.Request k x y passed)) (sym gives) (address_refused (setup_of b) (world_of b tasks) k x y passed why (subst (λ z. IsAddressError (address_refusal z x y passed) why) same is))) h

module _ (b : BoardView PlainView) (tasks : Tasks) (k : ℕ) (x y : List ℕ) (passed : List Passed) (o a : ℕ) (args : List Value) (letter : Letter) (told : BoardIsTold b) (h : HaveTheirs b tasks) (made : IsAddressed b.domain k x y passed o a args letter) where
  waits : waiting o (world_of b tasks) ≡ length (waiting_at b.mail o)
  waits = waiting_is b tasks o made.within (told.tied.taken_is o)

  module _ (b2 : BoardView PlainView) (domain : b2.domain ≡ b.domain) (most : b2.most ≡ b.most) (capacity : b2.mail.capacity ≡ b.mail.capacity) (entries : b2.journal ≡ b.journal) (same : b2.params ≡ b.params) (kept : b2.kept ≡ b.kept)
      (others : (z : ℕ) → z ≢ o → waiting_at b2.mail z ≡ waiting_at b.mail z) where
    limits : setup_of b2 ≡ setup_of b
    limits = λ i. record { domain = domain i; capacity = capacity i; max_starts = most i }

    have : HaveTheirs b2 tasks
    have = subst (λ d. HaveTasks d b2.journal b2.params b2.kept tasks) (sym domain) (subst (λ J. HaveTasks b.domain J b2.params b2.kept tasks) (sym entries)
        (subst (λ p. HaveTasks b.domain b.journal p b2.kept tasks) (sym same) (subst (λ z. HaveTasks b.domain b.journal b.params z tasks) (sym kept) h)))

    moves : (z : ℕ) → z < length b.domain.objects → moves_at b2.kept tasks z ≡ moves_at b.kept tasks z
    moves z below = ap (λ q. moves_at q tasks z) kept

    -- it was accepted
    pub accept_steps : (n : ℕ) → request_refusal b.journal o (length (waiting_at b.mail o)) b.mail.capacity ≡ None → n ≡ length (sent_at b.mail (Operator k) o) → waiting_at b2.mail o ≡ waiting_at b.mail o ++ record { sender = Operator k; action = a; args = args } ∷ [] → Same (taken_at b.mail) (taken_at b2.mail)
        → Steps b tasks (step.Request k x y passed) (Ok (Accepted n args)) b2 tasks
    accept_steps n free number last taken =
        let r : Request = record { sender = Operator k; action = a; args = args } in
        record {
          step = record {
            free = request_free (setup_of b) (world_of b tasks) k x y passed o made.free made.is_object (length (waiting_at b.mail o)) waits (told.few o) free;
            object = o;
            is_object = made.is_object;
            made = record {
              action = a;
              is_action = made.is_action;
              params = made.params;
              has_params = made.has_params;
              args = args;
              completes = made.completes;
              answer = ap (λ v. Accepted v args) (number ∙ ap (λ q. length (from_sender (Operator k) q)) (sym (queue_is b tasks o made.within)));
              after = world_grown b b2 tasks tasks domain o r made.within entries
                  (ap (λ t. t ++ waiting_at b2.mail o) (taken o) ∙ ap (λ q. taken_at b.mail o ++ q) last ∙ sym (append_assoc (taken_at b.mail o) (waiting_at b.mail o) (r ∷ [])))
                  (λ z below apart. ap (λ t. t ++ waiting_at b2.mail z) (taken z) ∙ ap (λ q. taken_at b.mail z ++ q) (others z apart)) moves;
            };
          };
          setup = limits;
          have = have;
        }

    -- the board refused it
    pub refuse_steps : (why : RequestRefusal) (e : StepError) → IsRequestError (is_killed o b.journal) (request_refusal b.journal o (length (waiting_at b.mail o)) b.mail.capacity) why → e ≡ request_error why → waiting_at b2.mail o ≡ waiting_at b.mail o → Same (taken_at b.mail) (taken_at b2.mail) → Steps b tasks (step.Request k x y passed) (Err e) b2 tasks
    refuse_steps why e is told_so here taken = record {
      step = (
        subst (IsRefusal (setup_of b) (world_of b tasks) (step.Request k x y passed)) (sym told_so) (request_refused (setup_of b) (world_of b tasks) k x y passed o made.free made.is_object (length (waiting_at b.mail o)) why waits (told.few o) is),
        world_kept b b2 tasks tasks domain entries (λ z below. ⊎_elim
            (λ (at : z ≡ o). subst (λ v. queue_in b2.mail v ≡ queue_in b.mail v) (sym at) (ap (λ t. t ++ waiting_at b2.mail o) (taken o) ∙ ap (λ q. taken_at b.mail o ++ q) here))
            (λ apart. ap (λ t. t ++ waiting_at b2.mail z) (taken z) ∙ ap (λ q. taken_at b.mail z ++ q) (others z apart))
            (cases_eq z o)) moves,
      );
      setup = limits;
      have = have;
    }
