-- What a manager keeps goes on saying what the journal says.
use Rattle.std.proofs.Common.{◌≡◌, ◌∙◌, sym, ap, refl, subst, arith, ◌≤◌, ◌+◌, ℕ, List, [], ◌∷◌, ◌++◌, ◌⊎◌, inl, inr, length, length-append, append-nil, map, Result, take}
use Rattle.std.specs.Prelude.{All}
use Rattle.std.proofs.Math.Seq.{take-append_seam}
use Rattle.std.proofs.lemmas.List.Elements.{All-append, All-nil}
use Rattle.smi_journal_entries.specs.Words.{all_starts}
use Rattle.smi_world.specs.declared.step.Step.{Step}
use Rattle.smi_world.specs.declared.step.Answer.{Answer}
use Rattle.smi_world.specs.declared.refusal.StepError.{StepError}
use Rattle.smi_world.specs.World.{Setup, World}
use Rattle.smi_world.specs.Steps.{StepsTo}
use Rattle.smi_world.specs.Runs.{IsReached}
use Rattle.smi_core.specs.Machines.{CoreView}
use Rattle.smi_request_fates.specs.Kept.{IsOfCounted, FatesTell, watched_request}
use Rattle.smi_live_accounts.specs.Accounts.{AccountsTell, AccountsView, ArePaired, IsNotedTo, MakesOneStep}
use Rattle.smi_live_accounts.proofs.Adding.{Adds, step_adds}
use Rattle.smi_world.specs.Steps.{Run}
use Rattle.smi_world.specs.World.{opening}

-- a run of one step more
run_more : (m : Setup) (w : World) (ss : List Step) (rs : List (Result Answer StepError)) (mid : World) (s : Step) (r : Result Answer StepError) (w2 : World) → Run m w ss rs mid → StepsTo m mid s r w2 → Run m w (ss ++ s ∷ []) (rs ++ r ∷ []) w2
run_more m w [] [] mid s r w2 h g = (w2, subst (λ n. StepsTo m n s r w2) h g, refl)
run_more m w (t ∷ ss) (a ∷ rs) mid s r w2 h g = (h.0, h.1, run_more m h.0 ss rs mid s r w2 h.2 g)
run_more m w [] (a ∷ rs) mid s r w2 h g = absurd h
run_more m w (t ∷ ss) [] mid s r w2 h g = absurd h

step_reached : (m : Setup) (w : World) (s : Step) (r : Result Answer StepError) (w2 : World) → IsReached m w → StepsTo m w s r w2 → IsReached m w2
step_reached m w s r w2 h g = record {
  steps = h.steps ++ s ∷ [];
  answers = h.answers ++ r ∷ [];
  reaches = record { sound = h.reaches.sound; run = run_more m (opening m) h.steps h.answers w s r w2 h.reaches.run g };
}

one_adds : (m m2 : CoreView) → MakesOneStep m m2 → Adds (length m.setup.domain.objects) m.world.journal m2.world.journal
one_adds m m2 h = go h.1
  where
    go : (m2.world ≡ m.world) ⊎ ((s : Step) × (r : Result Answer StepError) × StepsTo m.setup m.world s r m2.world) → Adds (length m.setup.domain.objects) m.world.journal m2.world.journal
    go (inl e) = subst (λ (w : World). Adds (length m.setup.domain.objects) m.world.journal w.journal) (sym e) record {
      added = [];
      is = sym (append-nil m.world.journal);
      known = All-nil (IsOfCounted (length m.setup.domain.objects));
    }
    go (inr s) = step_adds m.setup m.world s.0 s.1 m2.world s.2

at_most : (a b c : ℕ) → b ≡ a + c → a ≤ b
at_most a b c e = omega (arith, e)

-- after one step at most, it says what the entries before it say
pub noted_to : (m m2 : CoreView) (a : AccountsView) (first : ℕ) → MakesOneStep m m2 → first ≡ length m.world.journal → AccountsTell m.setup.domain m.world.journal a → IsNotedTo m2 first a
noted_to m m2 a first h e t =
    let more = one_adds m m2 h in
    let n = length m.setup.domain.objects in
    let here : take first m2.world.journal ≡ m.world.journal = ap (λ i. take i m2.world.journal) e ∙ ap (take (length m.world.journal)) more.is ∙ take-append_seam m.world.journal more.added in
    let known : All (IsOfCounted n) m2.world.journal = subst (All (IsOfCounted n)) (sym more.is) (All-append (IsOfCounted n) m.world.journal more.added t.known more.known) in
    let size : length m2.world.journal ≡ length m.world.journal + length more.added = ap length more.is ∙ length-append m.world.journal more.added in
    record {
      within = subst (λ i. i ≤ length m2.world.journal) (sym e) (at_most (length m.world.journal) (length m2.world.journal) (length more.added) size);
      tells = subst (λ (s : Setup). FatesTell s.domain (take first m2.world.journal) a.fates) (sym h.0) (subst (λ J. FatesTell m.setup.domain J a.fates) (sym here) t.tells);
      count = t.count ∙ ap (λ (s : Setup). length s.domain.objects) (sym h.0);
      known = subst (λ (s : Setup). All (IsOfCounted (length s.domain.objects)) m2.world.journal) (sym h.0) known;
      paired = subst (λ (s : Setup). ArePaired s.domain a.told (map watched_request a.fates.watched)) (sym h.0) t.paired;
      all = t.all ∙ ap (λ J. length (all_starts J)) (sym here);
    }

-- after one step at most, a world that is reached is followed by one that is
pub one_reached : (m m2 : CoreView) → MakesOneStep m m2 → IsReached m.setup m.world → IsReached m2.setup m2.world
one_reached m m2 h r = subst (λ s. IsReached s m2.world) (sym h.0) (go h.1)
  where
    go : (m2.world ≡ m.world) ⊎ ((s : Step) × (a : Result Answer StepError) × StepsTo m.setup m.world s a m2.world) → IsReached m.setup m2.world
    go (inl e) = subst (IsReached m.setup) (sym e) r
    go (inr s) = step_reached m.setup m.world s.0 s.1 m2.world r s.2
