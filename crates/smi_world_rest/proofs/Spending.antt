-- Own steps that change something are paid for by starts.
use Rattle.std.proofs.Common.{◌≡◌, ◌<◌, ◌≤◌, ◌+◌, ◌*◌, ℕ, Bool, true, false, cond, List, [], ◌∷◌, length, Option, Some}
use Rattle.std.proofs.Common.{None, Result, Ok, Err, refl, ap, sym, subst, ◌∙◌, arith, mul-le-mul_right}
use Rattle.std.proofs.lemmas.Bool.{leb-false}
use Rattle.std.proofs.lemmas.Option.{none-some}
use Rattle.std.proofs.lemmas.List.{length-replicate}
use Rattle.std.proofs.lemmas.List.Quantifiers.{position-Some}
use Rattle.sml_domain.specs.Domain.{Domain}
use Rattle.sml_domain.specs.Lookups.{names_object, object_named, program_at}
use Rattle.smi_journal_entries.specs.declared.entry.ActionEnd.TheVariants.{State, Skipped}
use Rattle.smi_journal_entries.specs.declared.entry.Cause.{Cause}
use Rattle.smi_journal_entries.specs.declared.entry.Cause.TheVariants.{By, Fault}
use Rattle.smi_journal_entries.specs.declared.entry.Entry.TheVariants.{End, Kill}
use Rattle.smi_journal_entries.specs.Requests.{Request}
use Rattle.smi_journal_entries.specs.Words.{all_starts, is_open, state_of}
use Rattle.smi_world.specs.declared.step.Step.{Step}
use Rattle.smi_world.specs.declared.step.Step.TheVariants as step
use Rattle.smi_world.specs.declared.step.Answer.{Answer}
use Rattle.smi_world.specs.declared.refusal.StepError.{StepError}
use Rattle.smi_world.specs.declared.refusal.StepError.TheVariants as error
use Rattle.smi_world.specs.World.{Setup, World, grown, turned, opening}
use Rattle.smi_world.specs.Steps.{refusal_stands, refusal, start_of_request, world_begun, Makes, StepsTo, Run}
use Rattle.smi_world_rest.specs.OwnSteps.{change_of, own_step, own_steps, AreMovesWithin, OwnStepsEnd}
use Rattle.smi_world_rest.proofs.Counting.{change_most, refused_none}
use Rattle.smi_world_rest.proofs.Going.{go_pays}
use Rattle.smi_world_rest.proofs.Measure.{still_to_go, to_go, all_to_go, few_to_go, none_closed}
use Rattle.smi_world_rest.proofs.Totals.{AgreeBut, total_at, total_none}
use Rattle.smi_world_rest.proofs.Written.{GoesOnAt, closed_by_end, closed_by_kill, at_turned, at_twice, at_go}

-- how many requests were started
abbrev started : World → ℕ
started w = length (all_starts w.journal)

-- this many own steps lead from one world to another, and are paid for by what was still to go and by what was started
record IsPaid (m : Setup) (n own : ℕ) (w w2 : World) : Type 0 where
  count : length w2.moves ≡ length w.moves
  limit : started w ≤ m.max_starts → started w2 ≤ m.max_starts
  paid : own + all_to_go m n w2 + started w * (2 * n + 2) ≤ all_to_go m n w + started w2 * (2 * n + 2)

paid_not : (m : Setup) (n : ℕ) (w : World) → IsPaid m n 0 w w
paid_not m n w = record { count = refl; limit = λ h. h; paid = omega arith }

paid_then : (m : Setup) (n x y : ℕ) (w mid w2 : World) → IsPaid m n x w mid → IsPaid m n y mid w2
    → IsPaid m n (x + y) w w2
paid_then m n x y w mid w2 a b = record {
  count = b.count ∙ a.count;
  limit = λ h. b.limit (a.limit h);
  paid = let p = a.paid in let q = b.paid in omega (arith, p, q);
}

-- what happens at one object, and starts k requests, is paid where the share of that object is
paid_at : (m : Setup) (n own k : ℕ) (w w2 : World) (o : ℕ) → o < length m.domain.objects → GoesOnAt o k w w2
    → (started w ≤ m.max_starts → started w + k ≤ m.max_starts) → own + to_go n w2 o ≤ to_go n w o + k * (2 * n + 2)
    → IsPaid m n own w w2
paid_at m n own k w w2 o within h limit pays =
    let same : AgreeBut o (to_go n w) (to_go n w2) =
    λ y other i. still_to_go n (h.written.opened y other i) (h.written.waits y other i) (length (h.moves y other i)) in
    let all = total_at (to_go n w) (to_go n w2) o (length m.domain.objects) within same in
    let price = ap (λ s. s * (2 * n + 2)) h.written.starts in
    record {
      count = h.count;
      limit = λ few. let l = limit few in let s = h.written.starts in omega (arith, l, s);
      paid = omega (arith, all, price, pays);
    }

-- where no more is started
paid_by_own : (m : Setup) (n own : ℕ) (w w2 : World) (o : ℕ) → o < length m.domain.objects → GoesOnAt o 0 w w2
    → own + to_go n w2 o ≤ to_go n w o → IsPaid m n own w w2
paid_by_own m n own w w2 o within h pays =
    paid_at m n own 0 w w2 o within h (λ few. omega (arith, few)) (omega (arith, pays))

-- an action that a device, its fault or a session closes
paid_closed : (m : Setup) (n : ℕ) (w w2 : World) (o : ℕ)
    → o < length m.domain.objects → GoesOnAt o 0 w w2 → is_open o w2.journal ≡ false → IsPaid m n 0 w w2
paid_closed m n w w2 o within h closed =
    let none = none_closed n w2 o closed in
    paid_by_own m n 0 w w2 o within h (omega (arith, none))

paid_end : (m : Setup) (n : ℕ) (w : World) (o s : ℕ)
    → o < length m.domain.objects → IsPaid m n 0 w (turned w o (End o (State s)))
paid_end m n w o s within =
    let e = End o (State s) in
    paid_closed m n w (turned w o e) o within (at_turned o w e refl) (closed_by_end o w.journal (State s))

paid_kill : (m : Setup) (n : ℕ) (w : World) (o : ℕ) (c : Cause)
    → o < length m.domain.objects → IsPaid m n 0 w (turned w o (Kill o c))
paid_kill m n w o c within =
    let e = Kill o c in
    paid_closed m n w (turned w o e) o within (at_turned o w e refl) (closed_by_kill o w.journal c)

-- a start
at_begun : {P : Type 0} → (p : Option P) (w : World) (o n : ℕ) (r : Request)
    → GoesOnAt o 1 w (world_begun p w o (start_of_request o n r))
at_begun (Some p) w o n r = at_turned o w (start_of_request o n r) refl
at_begun None w o n r =
    let e = start_of_request o n r in
    let mid = turned w o e in
    at_twice o 1 w mid (turned mid o (End o Skipped)) (at_turned o w e refl) (at_turned o mid (End o Skipped) refl)

paid_start : (m : Setup) (n : ℕ) (w w2 : World) (o : ℕ) (a : Answer) → o < length m.domain.objects
    → started w < m.max_starts → GoesOnAt o 1 w w2 → IsPaid m n (change_of (Ok a)) w w2
paid_start m n w w2 o a within few h =
    let one = change_most (Ok a) in
    let most = few_to_go n w2 o in
    paid_at m n (change_of (Ok a)) 1 w w2 o within h (λ before. omega (arith, few)) (omega (arith, one, most))

-- ---- steps

-- where no cause of a refusal was found, the first does not stand, and none was found behind it
not_first : (b : Bool) (x : StepError) (rest : Option StepError) → cond b (Some x) rest ≡ None
    → (b ≡ false) × (rest ≡ None)
not_first true x rest h = absurd (none-some x (sym h))
not_first false x rest h = (refl, h)

-- a start that is not refused is within the limit
free_to_start : (m : Setup) (w : World) (x : List ℕ) → refusal m w (step.Start x) ≡ None → started w < m.max_starts
free_to_start m w x h =
    let s = step.Start x in
    let f0 = not_first (refusal_stands m w s error.UnknownObject) error.UnknownObject _ h in
    let f1 = not_first (refusal_stands m w s error.Memory) error.Memory _ f0.1 in
    let f2 = not_first (refusal_stands m w s error.Limit) error.Limit _ f1.1 in
    leb-false m.max_starts (started w) f2.0

object_within : (d : Domain) (x : List ℕ) (o : ℕ) → object_named d x ≡ Some o → o < length d.objects
object_within d x o is = (position-Some (names_object x) d.objects o (record { name = []; class = 0 }) is).0

paid_grown : (m : Setup) (n : ℕ) (w : World) (o : ℕ) (r : Request) → IsPaid m n 0 w (grown w o r)
paid_grown m n w o r = let h = paid_not m n w in record { count = h.count; limit = h.limit; paid = h.paid }

paid_make : (m : Setup) (n : ℕ) (w w2 : World) (s : Step) (a : Answer) → AreMovesWithin m.domain n
    → length w.moves ≡ length m.domain.objects → Makes m w s a w2 → IsPaid m n (own_step s (Ok a)) w w2
paid_make m n w w2 (step.Request k x y args) a few count h =
    subst (IsPaid m n 0 w) (sym h.made.after) (paid_grown m n w h.object _)
paid_make m n w w2 (step.Start x) a few count h =
    let o = h.object in
    let r = h.made.request in
    let program = program_at m.domain o (state_of m.domain o w.journal) r.action in
    paid_start m n w w2 o a (object_within m.domain x o h.is_object) (free_to_start m w x h.free)
    (subst (GoesOnAt o 1 w) (sym h.made.after) (at_begun program w o _ r))
paid_make m n w w2 (step.Go x) a few count h =
    let o = h.object in
    let within = object_within m.domain x o h.is_object in
    paid_by_own m n (change_of (Ok a)) w w2 o within (at_go m w w2 o a h.made)
    (go_pays m n w w2 o a few (subst (λ k. o < k) (sym count) within) h.made)
paid_make m n w w2 (step.Answer x y) a few count h =
    subst (IsPaid m n 0 w) (sym h.made.2.after)
    (paid_end m n w h.object h.made.0 (object_within m.domain x h.object h.is_object))
paid_make m n w w2 (step.Fault x) a few count h =
    subst (IsPaid m n 0 w) (sym h.made.after)
    (paid_kill m n w h.object Fault (object_within m.domain x h.object h.is_object))
paid_make m n w w2 (step.Kill x k) a few count h =
    subst (IsPaid m n 0 w) (sym h.made.after)
    (paid_kill m n w h.object (By k) (object_within m.domain x h.object h.is_object))

paid_step : (m : Setup) (n : ℕ) (w : World) (s : Step) (r : Result Answer StepError) (w2 : World)
    → AreMovesWithin m.domain n → length w.moves ≡ length m.domain.objects → StepsTo m w s r w2
    → IsPaid m n (own_step s r) w w2
paid_step m n w s (Ok a) w2 few count h = paid_make m n w w2 s a few count h
paid_step m n w s (Err e) w2 few count h =
    subst (λ own. IsPaid m n own w w2) (sym (refused_none s e)) (subst (IsPaid m n 0 w) (sym h.1) (paid_not m n w))

paid_run : (m : Setup) (n : ℕ) (w : World) (ss : List Step) (rs : List (Result Answer StepError)) (w2 : World)
    → AreMovesWithin m.domain n → length w.moves ≡ length m.domain.objects → Run m w ss rs w2
    → IsPaid m n (own_steps ss rs) w w2
paid_run m n w [] [] w2 few count h = subst (IsPaid m n 0 w) (sym h) (paid_not m n w)
paid_run m n w (s ∷ ss) (r ∷ rs) w2 few count h =
    let a = paid_step m n w s r h.0 few count h.1 in
    paid_then m n (own_step s r) (own_steps ss rs) w h.0 w2 a (paid_run m n h.0 ss rs w2 few (a.count ∙ count) h.2)
paid_run m n w [] (r ∷ rs) w2 few count h = absurd h
paid_run m n w (s ∷ ss) [] w2 few count h = absurd h

pub own_steps_end : OwnStepsEnd
own_steps_end m n few steps answers w run =
    let objects = length m.domain.objects in
    let all = paid_run m n (opening m) steps answers w few (length-replicate objects []) run in
    let none = total_none (to_go n (opening m)) objects (λ y. refl) in
    let most = mul-le-mul_right (2 * n + 2) (all.limit (omega arith)) in
    let paid = all.paid in
    omega (arith, paid, none, most)
