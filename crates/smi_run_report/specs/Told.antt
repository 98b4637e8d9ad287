-- What sessions were told of their requests.
use Rattle.std.specs.Prelude.{◌≡◌, ◌<◌, ◌+◌, ℕ, List, [], Some, Vec, length, map, slice_get, slice_index_or}
use Rattle.std.specs.Global.{Global}
use Rattle.smi_journal_entries.specs.declared.entry.Sender.TheVariants.{Operator}
use Rattle.smi_journal_entries.specs.declared.letter.Letter.{Letter}
use Rattle.smi_journal_entries.specs.Requests.{Request}
use Rattle.smi_mail.specs.Mails.{OperatorSide}
use Rattle.smi_run_report.specs.declared.told.Accepted.{Accepted}

-- what the sender of a letter is told of it
abbrev pub accepted_of : Letter → Accepted
accepted_of l = record { number = l.number; action = l.action; args = l.args }

-- the request that a session was told is accepted
abbrev pub told_request : ℕ → Accepted → Request
told_request k a = record { sender = Operator k; action = a.action; args = a.args }

-- what a session was told of each object
abbrev pub rows_of : List (Vec Accepted Global) → List (List Accepted)
rows_of rows = map (λ v. v.items) rows

-- what the session in a place was told of an object
abbrev pub accepted_in : List (List (List Accepted)) → ℕ → ℕ → List Accepted
accepted_in all k o = slice_index_or (slice_index_or all k []) o []

-- in a place are the end of its session, and what this was told: of each object what its end sent there
pub record IsToldAt (ends : List OperatorSide) (accepted : List (Vec (Vec Accepted Global) Global)) (k : ℕ)
    : Type 0 where
  pub side : OperatorSide
  pub end : slice_get ends k ≡ Some side
  pub session : side.session ≡ k + 1
  pub row : Vec (Vec Accepted Global) Global
  pub rows : slice_get accepted k ≡ Some row
  pub tied : rows_of row.items ≡ map (map accepted_of) side.sent

-- the ends of `n` sessions, and what they were told, each in its place, the first session's first
pub record AreTold (n : ℕ) (ends : List OperatorSide) (accepted : List (Vec (Vec Accepted Global) Global))
    : Type 0 where
  pub long : length ends ≡ n
  pub wide : length accepted ≡ n
  pub each : (k : ℕ) → k < n → IsToldAt ends accepted k
