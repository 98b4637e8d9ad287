-- The opening world, and the prefixes of every world.
use Rattle.std.proofs.Common.{◌≡◌, ◌≤◌, ℕ, zero, suc, Bool, true, false, List, [], ◌∷◌, ◌++◌, length, get_or, None, refl, sym, ap, ◌∙◌, arith}
use Rattle.std.specs.Prelude.{replicate, nat_lt}
use Rattle.std.proofs.lemmas.Bool.{ltb-true, ltb-false}
use Rattle.smi_journal_entries.specs.Words.{starts_at}
use Rattle.smi_mail_plain.specs.Boxes.{BoxView, PlainView, box_at, no_box, taken_at, waiting_at}
use Rattle.smi_board.specs.Boards.{BoardView, kept_at}
use Rattle.smi_world.specs.World.{FrontOk, BeginRequests, opening, queue}
use Rattle.smi_world.proofs.Lists.{front_from}
use Rattle.smi_core.specs.Listed.{listed_below}
use Rattle.smi_core.specs.Machines.{Tasks, either_task, moves_in, moves_at, queue_in, setup_of, world_of}
use Rattle.smi_core.specs.Told.{BoardIsTold}
use Rattle.smi_core.proofs.Worlds.{queue_is, worlds_same}

-- empty values are listed as `n` empty lists
listed_none : {A : Type 0} → (n : ℕ) (f : ℕ → List A) → ((o : ℕ) → f o ≡ []) → listed_below n f ≡ replicate n []
listed_none zero f h = refl
listed_none (suc n) f h = ap (λ x. x ∷ listed_below n (λ i. f (suc i))) (h 0) ∙ ap (λ xs. [] ∷ xs) (listed_none n (λ i. f (suc i)) (λ o. h (suc o)))

-- before any step
pub opened : (b : BoardView PlainView) (m : PlainView) (tasks : Tasks) → b.journal ≡ [] → b.mail ≡ m → ((o : ℕ) → taken_at m o ≡ []) → ((o : ℕ) → waiting_at m o ≡ []) → ((o : ℕ) → kept_at b.kept o ≡ None) → ((o : ℕ) → kept_at tasks o ≡ None) → world_of b tasks ≡ opening (setup_of b)
opened b m tasks entries mail taken waiting kept none = worlds_same entries
    (listed_none (length b.domain.objects) (queue_in b.mail) (λ o. ap (λ x. queue_in x o) mail ∙ ap (λ t. t ++ waiting_at m o) (taken o) ∙ waiting o))
    (listed_none (length b.domain.objects) (moves_at b.kept tasks) (λ o. ap (λ s. moves_in (either_task s (kept_at b.kept o))) (none o) ∙ ap moves_in (kept o)))

-- what is no object has no mailbox
no_mailbox : (boxes : List BoxView) (o : ℕ) → length boxes ≤ o → box_at boxes o ≡ no_box
no_mailbox [] o le = refl
no_mailbox (b ∷ boxes) zero le = absurd (omega (arith, le))
no_mailbox (b ∷ boxes) (suc o) le = no_mailbox boxes o (omega (arith, le))

none_listed : {A : Type 0} → (n : ℕ) (f : ℕ → List A) (o : ℕ) → n ≤ o → get_or (listed_below n f) o [] ≡ []
none_listed zero f o le = refl
none_listed (suc n) f zero le = absurd (omega (arith, le))
none_listed (suc n) f (suc o) le = none_listed n (λ i. f (suc i)) o (omega (arith, le))

-- what was started begins what was accepted
front_at : (b : BoardView PlainView) (tasks : Tasks) (o : ℕ) → BoardIsTold b → (c : Bool) → nat_lt o (length b.domain.objects) ≡ c → BeginRequests (starts_at o b.journal) (queue o (world_of b tasks))
front_at b tasks o told true lt = (waiting_at b.mail o, ap (λ t. t ++ waiting_at b.mail o) (sym (told.tied.taken_is o)) ∙ sym (queue_is b tasks o (ltb-true o (length b.domain.objects) lt)))
front_at b tasks o told false ge =
    let le : length b.domain.objects ≤ o = ltb-false o (length b.domain.objects) ge in
    let none : starts_at o b.journal ≡ [] = sym (told.tied.taken_is o) ∙ ap (λ (x : BoxView). x.taken) (no_mailbox b.mail.boxes o (omega (arith, le, told.boxes))) in
    (queue o (world_of b tasks), ap (λ t. t ++ queue o (world_of b tasks)) none)

pub fronts : (b : BoardView PlainView) (tasks : Tasks) → BoardIsTold b → FrontOk (world_of b tasks)
fronts b tasks told s o = front_from s (starts_at o b.journal) (queue o (world_of b tasks)) (front_at b tasks o told (nat_lt o (length b.domain.objects)) refl)
