-- The entries that a step adds stand after those before it, and are of an object of the domain.
use Rattle.std.proofs.Common.{◌≡◌, ◌∙◌, sym, ap, refl, subst, ◌<◌, ℕ, Bool, true, false, List, [], ◌∷◌, ◌++◌, length, Option, Some, None, Result, Ok, Err, inl, inr, append_assoc, append-nil}
use Rattle.std.specs.Prelude.{All}
use Rattle.std.proofs.lemmas.List.Elements.{All-append, All-cons, All-nil}
use Rattle.std.proofs.lemmas.List.Quantifiers.{position-Some}
use Rattle.sml_domain.specs.Domain.{Domain}
use Rattle.sml_domain.specs.Lookups.{object_named, names_object}
use Rattle.sml_domain.specs.Program.{Target, ToOne, ToMembers}
use Rattle.smi_journal_entries.specs.declared.entry.Entry.{Entry}
use Rattle.smi_journal_entries.specs.declared.entry.Verdict.{Verdict}
use Rattle.smi_journal_entries.specs.declared.entry.Verdict.TheVariants.{Accepted, Full, Dead}
use Rattle.smi_journal_entries.specs.Words.{change_entry, object_of}
use Rattle.smi_meaning.specs.Items.{Post, Posted}
use Rattle.smi_world.specs.declared.step.Step.{Step}
use Rattle.smi_world.specs.declared.step.Step.TheVariants as step
use Rattle.smi_world.specs.declared.step.Answer.{Answer}
use Rattle.smi_world.specs.declared.refusal.StepError.{StepError}
use Rattle.smi_world.specs.World.{Setup, World}
use Rattle.smi_world.specs.Moves.{PostsAll, PostsAs, PostsEach, ActionGoesOn}
use Rattle.smi_world.specs.Steps.{MakesAt, StepsTo, world_begun}
use Rattle.smi_request_fates.specs.Kept.{IsOfCounted}

-- a journal is in front of another, and what follows it is of objects below a number
pub record Adds (n : ℕ) (J K : List Entry) : Type 0 where
  pub added : List Entry
  pub is : K ≡ J ++ added
  pub known : All (IsOfCounted n) added

adds_none : (n : ℕ) (J K : List Entry) → K ≡ J → Adds n J K
adds_none n J K e = record { added = []; is = e ∙ sym (append-nil J); known = All-nil (IsOfCounted n) }

adds_one : (n : ℕ) (J K : List Entry) (x : Entry) → object_of x < n → K ≡ J ++ x ∷ [] → Adds n J K
adds_one n J K x h e = record { added = x ∷ []; is = e; known = All-cons (IsOfCounted n) x [] h (All-nil (IsOfCounted n)) }

adds_more : (n : ℕ) (J K L : List Entry) → Adds n J K → Adds n K L → Adds n J L
adds_more n J K L p q = record {
  added = p.added ++ q.added;
  is = q.is ∙ ap (λ l. l ++ q.added) p.is ∙ append_assoc J p.added q.added;
  known = All-append (IsOfCounted n) p.added q.added p.known q.known;
}

same_journal : (w w2 : World) → w2 ≡ w → w2.journal ≡ w.journal
same_journal w w2 e = ap (λ (x : World). x.journal) e

post_adds : (v : Verdict) (m : Setup) (w : World) (o n : ℕ) (p : Post) (w2 : World) → o < n → PostsAs v m w o p w2 → Adds n w.journal w2.journal
post_adds (Accepted k) m w o n p w2 i h = adds_one n w.journal w2.journal _ i (same_journal _ w2 h.2)
post_adds Full m w o n p w2 i h = adds_one n w.journal w2.journal _ i (same_journal _ w2 h.2)
post_adds Dead m w o n p w2 i h = adds_one n w.journal w2.journal _ i (same_journal _ w2 h.1)

posts_adds : (m : Setup) (w : World) (o n : ℕ) (ps : List Posted) (w2 : World) → o < n → PostsEach m w o ps w2 → Adds n w.journal w2.journal
posts_adds m w o n [] w2 i h = adds_none n w.journal w2.journal (same_journal w w2 h)
posts_adds m w o n (p ∷ ps) w2 i h =
    adds_more n w.journal h.0.journal w2.journal (post_adds p.verdict m w o n p.post h.0 i h.1) (posts_adds m h.0 o n ps w2 i h.2)

all_adds : (m : Setup) (w : World) (o n : ℕ) (to : Target) (ps : List Posted) (w2 : World) → o < n → PostsAll m w o to ps w2 → Adds n w.journal w2.journal
all_adds m w o n (ToOne t) [] w2 i h = adds_none n w.journal w2.journal (same_journal w w2 h)
all_adds m w o n (ToMembers set) [] w2 i h = adds_one n w.journal w2.journal _ i (same_journal _ w2 h)
all_adds m w o n to (p ∷ ps) w2 i h = posts_adds m w o n (p ∷ ps) w2 i h

change_of : (o : ℕ) (b : Bool) (x set : ℕ) → object_of (change_entry o b x set) ≡ o
change_of o true x set = refl
change_of o false x set = refl

goes_adds : (m : Setup) (w : World) (o n : ℕ) (a : Answer) (w2 : World) → o < n → ActionGoesOn m w o a w2 → Adds n w.journal w2.journal
goes_adds m w o n a w2 i (inl h) = adds_none n w.journal w2.journal (same_journal _ w2 h.after)
goes_adds m w o n a w2 i (inr (inl h)) = subst (Adds n w.journal) (sym (same_journal _ w2 h.after)) (all_adds m w o n h.to h.posts h.mid i h.posted)
goes_adds m w o n a w2 i (inr (inr (inl h))) = adds_one n w.journal w2.journal _ i (same_journal _ w2 h.after)
goes_adds m w o n a w2 i (inr (inr (inr (inl h)))) = adds_one n w.journal w2.journal _ i (same_journal _ w2 h.after)
goes_adds m w o n a w2 i (inr (inr (inr (inr (inl h))))) = adds_none n w.journal w2.journal (same_journal w w2 h.after)
goes_adds m w o n a w2 i (inr (inr (inr (inr (inr (inl h)))))) = adds_one n w.journal w2.journal _ i (same_journal _ w2 h.after)
goes_adds m w o n a w2 i (inr (inr (inr (inr (inr (inr h)))))) =
    adds_one n w.journal w2.journal (change_entry o h.add h.member h.set) (subst (λ x. x < n) (sym (change_of o h.add h.member h.set)) i) (same_journal _ w2 h.after)

begun_adds : {P : Type 0} (p : Option P) (w : World) (o n : ℕ) (e : Entry) → o < n → object_of e ≡ o → Adds n w.journal (world_begun p w o e).journal
begun_adds (Some p) w o n e i own = adds_one n w.journal _ e (subst (λ x. x < n) (sym own) i) refl
begun_adds None w o n e i own =
    adds_more n w.journal (w.journal ++ e ∷ []) _ (adds_one n w.journal _ e (subst (λ x. x < n) (sym own) i) refl) (adds_one n (w.journal ++ e ∷ []) _ _ i refl)

makes_adds : (m : Setup) (w : World) (o n : ℕ) (s : Step) (a : Answer) (w2 : World) → o < n → MakesAt m w o s a w2 → Adds n w.journal w2.journal
makes_adds m w o n (step.Request k x y args) a w2 i h = adds_none n w.journal w2.journal (same_journal _ w2 h.after)
makes_adds m w o n (step.Start x) a w2 i h = subst (Adds n w.journal) (sym (same_journal _ w2 h.after)) (begun_adds _ w o n _ i refl)
makes_adds m w o n (step.Go x) a w2 i h = goes_adds m w o n a w2 i h
makes_adds m w o n (step.Answer x y) a w2 i h = adds_one n w.journal w2.journal _ i (same_journal _ w2 h.2.after)
makes_adds m w o n (step.Fault x) a w2 i h = adds_one n w.journal w2.journal _ i (same_journal _ w2 h.after)
makes_adds m w o n (step.Kill x k) a w2 i h = adds_one n w.journal w2.journal _ i (same_journal _ w2 h.after)

named_within : (d : Domain) (x : List ℕ) (o : ℕ) → object_named d x ≡ Some o → o < length d.objects
named_within d x o is = (position-Some (names_object x) d.objects o (record { name = []; class = 0 }) is).0

pub step_adds : (m : Setup) (w : World) (s : Step) (r : Result Answer StepError) (w2 : World) → StepsTo m w s r w2 → Adds (length m.domain.objects) w.journal w2.journal
step_adds m w s (Ok a) w2 h =
    makes_adds m w h.object (length m.domain.objects) s a w2 (named_within m.domain _ h.object h.is_object) h.made
step_adds m w s (Err e) w2 h = adds_none (length m.domain.objects) w.journal w2.journal (same_journal w w2 h.1)
