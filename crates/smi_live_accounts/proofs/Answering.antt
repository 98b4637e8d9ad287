-- What a request that is made once was answered.
use Rattle.std.proofs.Common.{◌≡◌, ◌∙◌, sym, ap, subst, arith, ℕ, ◌≤◌, ◌+◌, List, length, length-append, Option, Some, None, Result, Ok, Err}
use Rattle.std.specs.Prelude.{MatchOption}
use Rattle.sml_domain.specs.declared.value.Value.{Value}
use Rattle.sml_domain.specs.Completing.{Passed}
use Rattle.sml_domain.specs.Lookups.{action_named, object_named}
use Rattle.smi_journal_entries.specs.declared.entry.Entry.{Entry}
use Rattle.smi_journal_entries.specs.declared.entry.Sender.TheVariants.{Operator}
use Rattle.smi_journal_entries.specs.declared.journal.Format.TheVariants.{Two}
use Rattle.smi_journal_entries.specs.Requests.{Request, from_sender}
use Rattle.smi_journal_entries.specs.Words.{starts_at}
use Rattle.smi_world.specs.declared.step.Step.TheVariants as step
use Rattle.smi_world.specs.declared.step.Answer.{Answer}
use Rattle.smi_world.specs.declared.step.Answer.TheVariants as answer
use Rattle.smi_world.specs.declared.refusal.StepError.{StepError}
use Rattle.smi_world.specs.World.{BeginRequests, Setup, World, accepted}
use Rattle.smi_world.specs.Steps.{Makes, StepsTo}
use Rattle.smi_world.specs.Runs.{EveryRunIsLegal, EveryRunKeepsFronts, IsReached}
use Rattle.smi_world.proofs.Free.{free_request}
use Rattle.smi_lines.specs.Answers.{accepted_at, answer_text, error_word}
use Rattle.smi_request_fates.specs.declared.fate.Fate.TheVariants.{Waits}
use Rattle.smi_request_fates.specs.Fates.{fate_of}
use Rattle.smi_request_fates.specs.Laws.{UnstartedWait}
use Rattle.smi_live_accounts.specs.declared.requested.Requested.{Requested}
use Rattle.smi_live_accounts.specs.Accounts.{IsSomeRefusal}
use Rattle.smi_live_accounts.specs.Requested.{AcceptedAs, IsAccepted, IsRequested, IsUnaccepted, RequestedAs}

few : (a b c : ℕ) → a + b ≡ c → a ≤ c
few a b c e = omega (arith, e)

front_is_less : (xs ys : List Request) → BeginRequests xs ys → length xs ≤ length ys
front_is_less xs ys h = few (length xs) (length h.0) (length ys) (sym (length-append xs h.0) ∙ ap length h.1)

module _ (law : UnstartedWait) (legal : EveryRunIsLegal) (fronts : EveryRunKeepsFronts) (m : Setup) (w w2 : World) (reached : IsReached m w) (k : ℕ) (x y : List ℕ) (passed : List Passed) where
  -- an accepted request waits
  waits_there : (n : ℕ) (xs : List Value) (h : Makes m w (step.Request k x y passed) (answer.Accepted n xs) w2) → fate_of m.domain h.object (Operator k) n w2.journal ≡ Waits
  waits_there n xs h =
      let a = h.made in
      let same : w2.journal ≡ w.journal = ap (λ (v : World). v.journal) a.after in
      let number : n ≡ length (accepted (Operator k) h.object w) = cc a.answer in
      let alive = (free_request m w k x y passed h.object h.free h.is_object).alive in
      let less = front_is_less (from_sender (Operator k) (starts_at h.object w.journal)) (accepted (Operator k) h.object w) (fronts m w reached (Operator k) h.object) in
      ap (fate_of m.domain h.object (Operator k) n) same
      ∙ law Two m.domain w.journal h.object (Operator k) n (legal m w reached) alive (subst (λ i. length (from_sender (Operator k) (starts_at h.object w.journal)) ≤ i) (sym number) less)

  accepted_as : (n : ℕ) (xs : List Value) (text : List ℕ) (added : List Entry) (object : Option ℕ) → StepsTo m w (step.Request k x y passed) (Ok (answer.Accepted n xs)) w2 → object ≡ object_named m.domain x
      → text ≡ answer_text m.domain (step.Request k x y passed) (Ok (answer.Accepted n xs)) added → AcceptedAs m.domain w2.journal k object text n
  accepted_as n xs text added object h named told = record {
    place = h.object;
    is = named ∙ h.is_object;
    waits = waits_there n xs h;
    action = h.made.action;
    args = xs;
    told = told ∙ ap (λ o. accepted_at m.domain k n xs o (action_named m.domain y)) h.is_object ∙ ap (accepted_at m.domain k n xs (Some h.object)) h.made.is_action;
  }

  refused_as : (r : Result Answer StepError) (text : List ℕ) (added : List Entry) → StepsTo m w (step.Request k x y passed) r w2 → IsUnaccepted r → text ≡ answer_text m.domain (step.Request k x y passed) r added → IsSomeRefusal text
  refused_as (Ok a) text added h not told = absurd (not _ _ (ap Ok h.made.answer))
  refused_as (Err e) text added h not told = (error_word e, told)

  -- this was told of a request, as it was answered
  pub requested_as : (r : Result Answer StepError) (q : Requested) (text : List ℕ) (added : List Entry) → StepsTo m w (step.Request k x y passed) r w2 → IsRequested m.domain k x r q → text ≡ answer_text m.domain (step.Request k x y passed) r added → RequestedAs m.domain w2.journal q text
  requested_as r q text added h i told = go q.number i.number
    where
      go : (o : Option ℕ) → MatchOption o (IsUnaccepted r) (IsAccepted r) → MatchOption o (IsSomeRefusal text) (AcceptedAs m.domain w2.journal q.sender q.object text)
      go None un = refused_as r text added h un told
      go (Some n) acc =
          let e = acc.1 in
          let steps = subst (λ s. StepsTo m w (step.Request k x y passed) s w2) e h in
          let said = told ∙ ap (λ s. answer_text m.domain (step.Request k x y passed) s added) e in
          subst (λ s. AcceptedAs m.domain w2.journal s q.object text n) (sym i.sender) (accepted_as n acc.0 text added q.object steps i.object said)
