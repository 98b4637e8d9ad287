-- What closed mailboxes show.
use Rattle.std.specs.Prelude.{◌≡◌, ◌<◌, ◌≤◌, ◌++◌, ◌+◌, ◌⊎◌, ℕ, List, [], length, map, slice_get, slice_index_or, Some, Vec, vec_capacity}
use Rattle.std.specs.Global.{Global}
use Rattle.smi_journal_entries.specs.declared.entry.Sender.{Sender}
use Rattle.smi_journal_entries.specs.declared.entry.Sender.TheVariants.{Operator, Object}
use Rattle.smi_journal_entries.specs.declared.letter.Letter.{Letter}
use Rattle.smi_mail.specs.Letters.{letters_from}
use Rattle.smi_mail.specs.Rule.{sent_of}
use Rattle.smi_mail.specs.Sides.{BoardSide}
use Rattle.smi_mail.specs.Mails.{Letters, OperatorSide, session_sent, letters_taken, letters_sent}

-- at one object: what was taken, what objects sent, what each session sent (the first at 1), and what is left
pub record Final : Type 0 where
  pub taken : List Letter
  pub sent : List Letter
  pub known : List (List Letter)
  pub left : List Letter

-- what a drained end knows
abbrev pub final_of : BoardSide → Final
final_of e = record { taken = e.seen.taken; sent = e.seen.sent; known = e.seen.known; left = e.seen.left }

-- what is known of an object
abbrev pub final_at : List Final → ℕ → Final
final_at d o = slice_index_or d o (record { taken = []; sent = []; known = []; left = [] })

-- what a sender sent to an object
abbrev pub final_sent : List Final → Sender → ℕ → List Letter
final_sent d (Object a) o = letters_from (Object a) (final_at d o).sent
final_sent d (Operator k) o = slice_index_or (final_at d o).known k []

-- the board's end of an object's mailbox, with what each of these sessions sent there
abbrev pub with_known : List OperatorSide → ℕ → BoardSide → BoardSide
with_known ends o b = record b { seen = record b.seen { known = b.seen.known ++ map (λ e. session_sent e o) ends } }

-- a drained mailbox says what its board's end knew, and nothing is missing: what each sender sent was taken or is
-- left
pub record IsDrainOf (b d : BoardSide) : Type 0 where
  pub taken : d.seen.taken ≡ b.seen.taken
  pub sent : d.seen.sent ≡ b.seen.sent
  pub known : d.seen.known ≡ b.seen.known
  pub settled : (s : Sender) → sent_of d.seen s ≡ letters_from s d.seen.taken ++ letters_from s d.seen.left

-- an empty list with this room
abbrev pub IsRoom : ℕ → Vec Letter Global → Type 0
IsRoom n v = (v.items ≡ []) × (n ≤ vec_capacity v)

-- the end of this session is among these
abbrev pub HasSession : ℕ → List OperatorSide → Type 0
HasSession k ends = (i : ℕ) × (e : OperatorSide) × (slice_get ends i ≡ Some e) × (e.session ≡ k)

-- likewise, at this place or behind it
abbrev pub HasSessionFrom : ℕ → ℕ → List OperatorSide → Type 0
HasSessionFrom place k ends = (i : ℕ) × (e : OperatorSide) × (place ≤ i) × (slice_get ends i ≡ Some e) × (e.session ≡ k)

-- this end is among these
abbrev pub HasEnd : OperatorSide → List OperatorSide → Type 0
HasEnd e ends = (i : ℕ) × (slice_get ends i ≡ Some e)

-- the ends are in the order of their sessions
abbrev pub AreInOrder : List OperatorSide → Type 0
AreInOrder ends = (k : ℕ) (e : OperatorSide) → slice_get ends k ≡ Some e → e.session ≡ k + 1

-- the ends of sessions 1 to `n`, each once, in any order
pub record AreAllEnds (n : ℕ) (ends : List OperatorSide) : Type 0 where
  pub count : length ends ≡ n
  pub each : (k : ℕ) → k < n → HasSession (k + 1) ends

-- this is not the number of one of `n` sessions, which are numbered from 1
abbrev pub IsNoSession : ℕ → ℕ → Type 0
IsNoSession n k = (k ≡ 0) ⊎ (n < k)

-- What closed mailboxes say of one object: what was taken of it and what objects sent to it, as the mail knew them, and
-- what each session sent to it, as its end knew it. A session that does not exist sent nothing. What each sender sent
-- is what was taken of it, followed by what is left of it.
pub record IsFinal (m : List Letters) (ends : List OperatorSide) (d : List Final) (o : ℕ) : Type 0 where
  pub taken : (final_at d o).taken ≡ letters_taken m o
  pub objects : (a : ℕ) → final_sent d (Object a) o ≡ letters_sent m (Object a) o
  pub operators : (k : ℕ) (e : OperatorSide) → slice_get ends k ≡ Some e →
      final_sent d (Operator e.session) o ≡ session_sent e o
  pub nobody : (k : ℕ) → IsNoSession (length ends) k → final_sent d (Operator k) o ≡ []
  pub settled : (s : Sender) →
      final_sent d s o ≡ letters_from s (final_at d o).taken ++ letters_from s (final_at d o).left
