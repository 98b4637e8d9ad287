-- What sessions show.
use Rattle.std.specs.Prelude.{◌≡◌, ◌+◌, ◌≤◌, ◌++◌, ◌∷◌, ℕ, Bool, true, false, List, [], length, Option, Some, None, Result, Ok, Err, Vec, slice_get, slice_index_or, slice_set, vec_len, vec_capacity}
use Rattle.std.specs.Global.{Global}
use Rattle.std.specs.List.{All}
use Rattle.smi_mail.specs.Mails.{OperatorSide, session_sent}
use Rattle.smi_run_report.specs.declared.told.Accepted.{Accepted}
use Rattle.smi_run_report.specs.declared.told.Receipt.{Receipt}
use Rattle.smi_run_runtime.specs.declared.errors.KillError.{KillError}
use Rattle.smi_run_runtime.specs.declared.errors.KillError.TheVariants.{UnknownObject, Memory, AlreadyDead}

-- what contracts see of a session: which it is, what it was told is accepted at each object, and its receipts
pub record SessionBook : Type 0 where
  pub session : ℕ
  pub accepted : List (List Accepted)
  pub receipts : List Receipt

-- what a session was told is accepted at an object
abbrev pub told_at : SessionBook → ℕ → List Accepted
told_at s o = slice_index_or s.accepted o []

-- a session that was told of one request more
abbrev pub with_told : SessionBook → ℕ → Accepted → SessionBook
with_told s o x = record s { accepted = slice_set s.accepted o (told_at s o ++ x ∷ []) }

-- a session with one receipt more: of its own kill, or of one that it was told of
abbrev pub with_receipt : SessionBook → ℕ → ℕ → Bool → SessionBook
with_receipt s o p own = record s {
  receipts = s.receipts ++ record { session = s.session; object = o; place = p; own = own } ∷ [];
}

-- there is room for one more in the row of an object
abbrev pub HasRoomAt : List (Vec Accepted Global) → ℕ → Type 0
HasRoomAt rows o = (v : Vec Accepted Global) → slice_get rows o ≡ Some v → vec_len v + 1 ≤ vec_capacity v

-- rows of nothing, one for each object
abbrev pub AreEmptyRows : ℕ → Vec (Vec Accepted Global) Global → Type 0
AreEmptyRows n rows = (length rows.items ≡ n) × All (λ v. v.items ≡ []) rows.items

-- nothing was sent by any of these ends
abbrev pub AreUnused : List OperatorSide → Type 0
AreUnused ends = (k : ℕ) (e : OperatorSide) → slice_get ends k ≡ Some e → (o : ℕ) → session_sent e o ≡ []

-- a session was told nothing
pub record IsUntold (k : ℕ) (s : SessionBook) : Type 0 where
  pub session : s.session ≡ k
  pub receipts : s.receipts ≡ []
  pub accepted : (o : ℕ) → told_at s o ≡ []

-- a session for each end, in the same order, which was told nothing
pub record AreSessionsOf (ends : List OperatorSide) (sessions : List SessionBook) : Type 0 where
  pub long : length sessions ≡ length ends
  pub each : (k : ℕ) (e : OperatorSide) (s : SessionBook) → slice_get ends k ≡ Some e → slice_get sessions k ≡ Some s →
      IsUntold e.session s

-- what a kill leaves in a session, of an object that its name has or not: the answer and its receipt
abbrev pub LeavesOfKill : Option ℕ → SessionBook → Result ℕ KillError → SessionBook → Type 0
LeavesOfKill None s (Ok p) s2 = ⊥
LeavesOfKill None s (Err UnknownObject) s2 = s2 ≡ s
LeavesOfKill None s (Err Memory) s2 = ⊥
LeavesOfKill None s (Err (AlreadyDead p)) s2 = ⊥
LeavesOfKill (Some o) s (Ok p) s2 = s2 ≡ with_receipt s o p true
LeavesOfKill (Some o) s (Err UnknownObject) s2 = ⊥
LeavesOfKill (Some o) s (Err Memory) s2 = s2 ≡ s
LeavesOfKill (Some o) s (Err (AlreadyDead p)) s2 = s2 ≡ with_receipt s o p false
