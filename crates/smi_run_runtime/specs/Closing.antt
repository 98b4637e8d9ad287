-- How runtimes are closed.
use Rattle.std.specs.Prelude.{◌≡◌, ◌==◌, ◌<◌, ◌+◌, ◌≤◌, ℕ, List, [], length, map, Option, Some, None, Vec, slice_get, vec_capacity}
use Rattle.std.specs.Global.{Global}
use Rattle.std.specs.List.{find, flat_map, range_with_len}
use Rattle.smi_journal_entries.specs.declared.entry.Entry.{Entry}
use Rattle.smi_mail.specs.Mails.{OperatorSide}
use Rattle.smi_run_report.specs.declared.told.Accepted.{Accepted}
use Rattle.smi_run_report.specs.declared.told.Receipt.{Receipt}
use Rattle.smi_run_report.specs.Receipts.{unmet_among}
use Rattle.smi_run_report.specs.Told.{accepted_of, rows_of}
use Rattle.smi_run_runtime.specs.Sessions.{SessionBook}

-- the first of some sessions that has a number
abbrev pub closed_of : List SessionBook → ℕ → Option SessionBook
closed_of closed k = find (λ s. s.session == k) closed

-- the receipts of a session that is there
abbrev pub receipts_of : Option SessionBook → List Receipt
receipts_of None = []
receipts_of (Some s) = s.receipts

-- one of the first `n` sessions is not there
abbrev pub IsMissing : ℕ → List SessionBook → Type 0
IsMissing n closed = (k : ℕ) × (k < n) × (closed_of closed (k + 1) ≡ None)

-- each of the first `n` sessions is there
abbrev pub AreAllThere : ℕ → List SessionBook → Type 0
AreAllThere n closed = (k : ℕ) → k < n → (s : SessionBook) × (closed_of closed (k + 1) ≡ Some s)

-- the receipts that are not met, by sessions, and of each in order
abbrev pub all_unmet : List Entry → List SessionBook → ℕ → List Receipt
all_unmet J closed n =
    flat_map (λ k. unmet_among J (receipts_of (closed_of closed (k + 1)))) (range_with_len 0 n)

-- an empty list with room for `n` items
abbrev pub IsRoomFor : {A : Type 0} → ℕ → Vec A Global → Type 0
IsRoomFor n v = (v.items ≡ []) × (n ≤ vec_capacity v)

-- in each place the session with the next number, if it is there
pub record AreSlots (n : ℕ) (closed : List SessionBook) (slots : List (Option SessionBook)) : Type 0 where
  pub long : length slots ≡ n
  pub each : (k : ℕ) → k < n → slice_get slots k ≡ Some (closed_of closed (k + 1))

-- in a place are the end of a session that is there, and what it was told
pub record IsSeat (all : List SessionBook) (ends : List OperatorSide)
    (accepted : List (Vec (Vec Accepted Global) Global)) (k : ℕ) : Type 0 where
  pub one : SessionBook
  pub closed : closed_of all (k + 1) ≡ Some one
  pub side : OperatorSide
  pub end : slice_get ends k ≡ Some side
  pub session : side.session ≡ k + 1
  pub row : Vec (Vec Accepted Global) Global
  pub rows : slice_get accepted k ≡ Some row
  pub same : rows_of row.items ≡ one.accepted
  pub tied : one.accepted ≡ map (map accepted_of) side.sent

-- the ends of `n` sessions, and what they were told, each in its place
pub record AreSeats (n : ℕ) (closed : List SessionBook) (ends : List OperatorSide)
    (accepted : List (Vec (Vec Accepted Global) Global)) : Type 0 where
  pub long : length ends ≡ n
  pub wide : length accepted ≡ n
  pub each : (k : ℕ) → k < n → IsSeat closed ends accepted k
