-- What a request that is made once asked for, and how it was answered.
use Rattle.std.specs.Prelude.{◌≡◌, ◌≢◌, ℕ, List, MatchOption, None, Ok, Option, Result, Some}
use Rattle.sml_domain.specs.declared.value.Value.{Value}
use Rattle.sml_domain.specs.Domain.{Domain}
use Rattle.sml_domain.specs.Lookups.{object_named}
use Rattle.smi_journal_entries.specs.declared.entry.Entry.{Entry}
use Rattle.smi_journal_entries.specs.declared.entry.Sender.TheVariants.{Operator}
use Rattle.smi_world.specs.declared.step.Answer.{Answer}
use Rattle.smi_world.specs.declared.step.Answer.TheVariants as answer
use Rattle.smi_world.specs.declared.refusal.StepError.{StepError}
use Rattle.smi_lines.specs.Answers.{accept_text}
use Rattle.smi_request_fates.specs.declared.fate.Fate.TheVariants.{Waits}
use Rattle.smi_request_fates.specs.declared.fate.Came.TheVariants.{Refused}
use Rattle.smi_request_fates.specs.Fates.{fate_of}
use Rattle.smi_request_fates.specs.Kept.{WatchedView}
use Rattle.smi_live_accounts.specs.declared.requested.Requested.{Requested}
use Rattle.smi_live_accounts.specs.Accounts.{AccountsView, IsSomeRefusal, stands_kept}

-- the answer accepts a request under a number
abbrev pub IsAccepted : Result Answer StepError → ℕ → Type 0
IsAccepted r n = (args : List Value) × (r ≡ Ok (answer.Accepted n args))

-- the answer accepts no request
abbrev pub IsUnaccepted : Result Answer StepError → Type 0
IsUnaccepted r = (n : ℕ) (args : List Value) → r ≢ Ok (answer.Accepted n args)

-- a session asked the object of this name, and was answered so
pub record IsRequested (d : Domain) (k : ℕ) (x : List ℕ) (r : Result Answer StepError) (q : Requested) : Type 0 where
  pub sender : q.sender ≡ k
  pub object : q.object ≡ object_named d x
  pub number : MatchOption q.number (IsUnaccepted r) (IsAccepted r)

-- a session's request was accepted at an object under a number, waits there, and this was told
pub record AcceptedAs (d : Domain) (J : List Entry) (k : ℕ) (object : Option ℕ) (text : List ℕ) (n : ℕ) : Type 0 where
  pub place : ℕ
  pub is : object ≡ Some place
  pub waits : fate_of d place (Operator k) n J ≡ Waits
  pub action : ℕ
  pub args : List Value
  pub told : text ≡ accept_text d k place n action args

-- this was told of a request: that it was accepted, or that it was refused
abbrev pub RequestedAs : Domain → List Entry → Requested → List ℕ → Type 0
RequestedAs d J q text = MatchOption q.number (IsSomeRefusal text) (AcceptedAs d J q.sender q.object text)

-- a refused request is watched as one of its object, as that stands now; as one of no object if the domain has none
abbrev pub IsWatchedRefused : AccountsView → Requested → WatchedView → Type 0
IsWatchedRefused a q w =
    MatchOption q.object (w.came ≡ Refused None) (λ o. (w.object ≡ o) × (w.came ≡ Refused (stands_kept a o)))
