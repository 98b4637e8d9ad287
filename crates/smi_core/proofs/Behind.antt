-- The entries that a step adds stand behind those before it.
use Rattle.std.proofs.Common.{◌≡◌, ◌∙◌, sym, ap, refl, ℕ, List, [], ◌∷◌, ◌++◌, Option, Some, None, Result, Ok, Err, inl, inr, subst, append_assoc, append-nil}
use Rattle.sml_domain.specs.Domain.{Domain}
use Rattle.sml_domain.specs.Program.{Target, ToOne, ToMembers}
use Rattle.smi_journal_entries.specs.declared.journal.Format.TheVariants.{Two}
use Rattle.smi_journal_entries.specs.declared.entry.Entry.{Entry}
use Rattle.smi_journal_entries.specs.declared.entry.Verdict.{Verdict}
use Rattle.smi_journal_entries.specs.declared.entry.Verdict.TheVariants.{Accepted, Full, Dead}
use Rattle.smi_meaning.specs.Items.{Post, Posted}
use Rattle.smi_meaning.specs.Legal.{IsLegal, IsLegalFrom}
use Rattle.smi_meaning.proofs.Journals.{legal_front}
use Rattle.smi_world.specs.declared.step.Step.{Step}
use Rattle.smi_world.specs.declared.step.Step.TheVariants as step
use Rattle.smi_world.specs.declared.step.Answer.{Answer}
use Rattle.smi_world.specs.declared.refusal.StepError.{StepError}
use Rattle.smi_world.specs.World.{Setup, World}
use Rattle.smi_world.specs.Moves.{PostsAll, PostsAs, PostsEach, ActionGoesOn}
use Rattle.smi_world.specs.Steps.{MakesAt, StepsTo, world_begun}

-- a journal is in front of another
abbrev Behind : List Entry → List Entry → Type 0
Behind J K = (added : List Entry) × (K ≡ J ++ added)

none_behind : (J K : List Entry) → K ≡ J → Behind J K
none_behind J K e = ([], e ∙ sym (append-nil J))

one_behind : (J K : List Entry) (x : Entry) → K ≡ J ++ x ∷ [] → Behind J K
one_behind J K x e = (x ∷ [], e)

more_behind : (J K L : List Entry) → Behind J K → Behind K L → Behind J L
more_behind J K L p q = (p.0 ++ q.0, q.1 ∙ ap (λ l. l ++ q.0) p.1 ∙ append_assoc J p.0 q.0)

same_journal : (w w2 : World) → w2 ≡ w → w2.journal ≡ w.journal
same_journal w w2 e = ap (λ (x : World). x.journal) e

post_behind : (v : Verdict) (m : Setup) (w : World) (o : ℕ) (p : Post) (w2 : World) → PostsAs v m w o p w2 → Behind w.journal w2.journal
post_behind (Accepted n) m w o p w2 h = one_behind w.journal w2.journal _ (same_journal _ w2 h.2)
post_behind Full m w o p w2 h = one_behind w.journal w2.journal _ (same_journal _ w2 h.2)
post_behind Dead m w o p w2 h = one_behind w.journal w2.journal _ (same_journal _ w2 h.1)

posts_behind : (m : Setup) (w : World) (o : ℕ) (ps : List Posted) (w2 : World) → PostsEach m w o ps w2 → Behind w.journal w2.journal
posts_behind m w o [] w2 h = none_behind w.journal w2.journal (same_journal w w2 h)
posts_behind m w o (p ∷ ps) w2 h =
    more_behind w.journal h.0.journal w2.journal (post_behind p.verdict m w o p.post h.0 h.1) (posts_behind m h.0 o ps w2 h.2)

all_behind : (m : Setup) (w : World) (o : ℕ) (to : Target) (ps : List Posted) (w2 : World) → PostsAll m w o to ps w2 → Behind w.journal w2.journal
all_behind m w o (ToOne t) [] w2 h = none_behind w.journal w2.journal (same_journal w w2 h)
all_behind m w o (ToMembers set) [] w2 h = one_behind w.journal w2.journal _ (same_journal _ w2 h)
all_behind m w o to (p ∷ ps) w2 h = posts_behind m w o (p ∷ ps) w2 h

goes_behind : (m : Setup) (w : World) (o : ℕ) (a : Answer) (w2 : World) → ActionGoesOn m w o a w2 → Behind w.journal w2.journal
goes_behind m w o a w2 (inl h) = none_behind w.journal w2.journal (same_journal _ w2 h.after)
goes_behind m w o a w2 (inr (inl h)) = subst (Behind w.journal) (sym (same_journal _ w2 h.after)) (all_behind m w o h.to h.posts h.mid h.posted)
goes_behind m w o a w2 (inr (inr (inl h))) = one_behind w.journal w2.journal _ (same_journal _ w2 h.after)
goes_behind m w o a w2 (inr (inr (inr (inl h)))) = one_behind w.journal w2.journal _ (same_journal _ w2 h.after)
goes_behind m w o a w2 (inr (inr (inr (inr (inl h))))) = none_behind w.journal w2.journal (same_journal w w2 h.after)
goes_behind m w o a w2 (inr (inr (inr (inr (inr (inr h)))))) = one_behind w.journal w2.journal _ (same_journal _ w2 h.after)
goes_behind m w o a w2 (inr (inr (inr (inr (inr (inl h)))))) = one_behind w.journal w2.journal _ (same_journal _ w2 h.after)

begun_behind : {P : Type 0} (p : Option P) (w : World) (o : ℕ) (e : Entry) → Behind w.journal (world_begun p w o e).journal
begun_behind (Some p) w o e = (e ∷ [], refl)
begun_behind None w o e = (e ∷ _ ∷ [], append_assoc w.journal (e ∷ []) _)

makes_behind : (m : Setup) (w : World) (o : ℕ) (s : Step) (a : Answer) (w2 : World) → MakesAt m w o s a w2 → Behind w.journal w2.journal
makes_behind m w o (step.Request k x y args) a w2 h = none_behind w.journal w2.journal (same_journal _ w2 h.after)
makes_behind m w o (step.Start x) a w2 h = subst (Behind w.journal) (sym (same_journal _ w2 h.after)) (begun_behind _ w o _)
makes_behind m w o (step.Go x) a w2 h = goes_behind m w o a w2 h
makes_behind m w o (step.Answer x y) a w2 h = one_behind w.journal w2.journal _ (same_journal _ w2 h.2.after)
makes_behind m w o (step.Fault x) a w2 h = one_behind w.journal w2.journal _ (same_journal _ w2 h.after)
makes_behind m w o (step.Kill x k) a w2 h = one_behind w.journal w2.journal _ (same_journal _ w2 h.after)

step_behind : (m : Setup) (w : World) (s : Step) (r : Result Answer StepError) (w2 : World) → StepsTo m w s r w2 → Behind w.journal w2.journal
step_behind m w s (Ok a) w2 h = makes_behind m w h.object s a w2 h.made
step_behind m w s (Err e) w2 h = none_behind w.journal w2.journal (same_journal w w2 h.1)

-- where the journal after a step is legal, each entry that the step added may follow those before it
pub legal_behind : (m : Setup) (d : Domain) (w : World) (s : Step) (r : Result Answer StepError) (w2 : World) → StepsTo m w s r w2 → IsLegal Two d w2.journal
    → (added : List Entry) × (w2.journal ≡ w.journal ++ added) × IsLegalFrom Two d w.journal added
legal_behind m d w s r w2 h legal =
    let b = step_behind m w s r w2 h in
    (b.0, b.1, (legal_front Two d w.journal b.0 (subst (IsLegal Two d) b.1 legal)).1)
