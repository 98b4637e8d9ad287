-- Those whom kept tasks wait to read are there.
use Rattle.std.proofs.Common.{◌≡◌, ◌<◌, ℕ, zero, suc, List, [], ◌∷◌, All, IfSome, length, Option, Some, None, refl, subst, arith}
use Rattle.std.proofs.lemmas.List.Elements.{All-nil}
use Rattle.sml_domain.specs.declared.value.Value.{Value}
use Rattle.sml_domain.specs.Domain.{Domain}
use Rattle.sml_domain.specs.Sound.{IsSound}
use Rattle.std.specs.Prelude.{Bool}
use Rattle.smi_journal_entries.specs.declared.entry.Entry.{Entry}
use Rattle.smi_journal_entries.specs.declared.entry.Sender.{Sender}
use Rattle.smi_journal_entries.specs.Requests.{Request}
use Rattle.smi_journal_entries.specs.Sets.{AreOf, sets_after}
use Rattle.smi_interp.specs.declared.contact.Contact.{Contact}
use Rattle.smi_interp.specs.declared.contact.Contact.TheVariants as named
use Rattle.smi_interp.specs.Task.{TaskView, LeftNames}
use Rattle.smi_board.specs.Boards.{EachRuns, IsTied, kept_at, own_at}
use Rattle.smi_board.specs.Looks.{ArePlaced, AsksNext, all_read, all_waiting}
use Rattle.smi_board.specs.Turns.{EachKept, IsOf}
use Rattle.smi_board.proofs.Seen.{nameable_at}

-- a task is kept of one of the places
kept_within : (kept : List (Option TaskView)) (o : ℕ) (t : TaskView) → kept_at kept o ≡ Some t → o < length kept
kept_within [] o t is = absurd (cc is)
kept_within (u ∷ kept) zero t is = omega arith
kept_within (u ∷ kept) (suc o) t is = let lt = kept_within kept o t is in omega (arith, lt)

pub waiting_there : (d : Domain) (J : List Entry) (params : List (List Value)) (kept : List (Option TaskView))
    (list : List ℕ) (holders : List (Option ℕ))
    (serves : Sender → Bool) (taken : ℕ → List Request) (sent : Sender → ℕ → List Request)
    → AreOf d (sets_after d J) → IsSound d → IsTied d J params serves taken sent → EachRuns d J params
    → EachKept d J params kept
    → ArePlaced d J kept list holders → (o : ℕ)
    → All (λ x. x < length d.objects) (all_waiting d (sets_after d J) (kept_at kept o))
waiting_there d J params kept list holders serves taken sent are sound tied runs tasks placed o = by
    (kept_at kept o) refl
  where
    read : (t : TaskView) → kept_at kept o ≡ Some t → (p : Option Contact) → t.pending ≡ p
        → All (λ x. x < length d.objects) (all_read d (sets_after d J) p)
    read t is None asks = All-nil (λ x. x < length d.objects)
    read t is (Some (named.Send wanted)) asks = All-nil (λ x. x < length d.objects)
    read t is (Some (named.Change add member set)) asks = All-nil (λ x. x < length d.objects)
    read t is (Some (named.End s)) asks = All-nil (λ x. x < length d.objects)
    read t is (Some (named.Local p v)) asks = All-nil (λ x. x < length d.objects)
    read t is (Some (named.Read names)) asks =
        let within : o < length d.objects = subst (λ n. o < n) tasks.count (kept_within kept o t is) in
        let own : IsOf d J (own_at params o) o t = subst (λ k. IfSome k (IsOf d J (own_at params o) o)) is
        (tasks.each o) in
        let next : AsksNext t = subst (λ k. IfSome k AsksNext) is (placed.asks o) in
        let left : LeftNames t (named.Read names) = subst (λ p. IfSome p (LeftNames t)) asks next in
        nameable_at d o t J params serves taken sent names are sound tied runs within own left

    by : (t : Option TaskView) → kept_at kept o ≡ t → All (λ x. x < length d.objects) (all_waiting d (sets_after d J) t)
    by None is = All-nil (λ x. x < length d.objects)
    by (Some t) is = read t is t.pending refl
