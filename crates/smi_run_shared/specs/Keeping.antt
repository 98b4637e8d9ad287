-- What the lock keeps, and what answers of devices do to it.
use Rattle.std.specs.Prelude.{◌≡◌, ◌<◌, ℕ, List, [], ◌∷◌, length, Result, Ok, Err, Option, Some, None}
use Rattle.sml_domain.specs.Domain.{Domain}
use Rattle.smi_journal_entries.specs.declared.entry.ActionEnd.TheVariants.{State}
use Rattle.smi_journal_entries.specs.declared.entry.Cause.TheVariants.{Fault}
use Rattle.smi_journal_entries.specs.declared.entry.Entry.{Entry}
use Rattle.smi_journal_entries.specs.declared.entry.Entry.TheVariants.{End, Kill}
use Rattle.smi_journal_entries.specs.declared.entry.Sender.TheVariants.{Object}
use Rattle.smi_journal_entries.specs.declared.journal.Format.TheVariants.{Two}
use Rattle.smi_journal_entries.specs.Words.{posts_between, starts_at}
use Rattle.smi_meaning.specs.Legal.{IsLegal}
use Rattle.smi_mail.specs.Mails.{Letters, requests_taken, requests_sent}
use Rattle.smi_board.specs.Boards.{BoardView}
use Rattle.smi_board.specs.declared.errors.AnswerError.{AnswerError}
use Rattle.smi_board.specs.Refusals.{answer_refusal, fault_refusal}
use Rattle.smi_run_shared.specs.declared.device.DeviceFault.{DeviceFault}

-- a board of a domain: its journal is legal, its starts are what was taken of its mailboxes, and its accepted posts
-- are what its objects sent
pub record IsSharedBoard (d : Domain) (b : BoardView (List Letters)) : Type 0 where
  pub domain : b.domain ≡ d
  pub legal : IsLegal Two d b.journal
  pub starts : (o : ℕ) → starts_at o b.journal ≡ requests_taken b.mail o
  pub posts : (a o : ℕ) → a < length d.objects → posts_between a o b.journal ≡ requests_sent b.mail (Object a) o

-- the kill of an object by its device, unless this is refused
abbrev pub kill_unless : ℕ → Option AnswerError → List Entry
kill_unless o None = Kill o Fault ∷ []
kill_unless o (Some e) = []

-- the end of its action in a state, unless this is refused: then its kill
abbrev pub end_unless : Domain → List Entry → ℕ → ℕ → Option AnswerError → List Entry
end_unless d J o s None = End o (State s) ∷ []
end_unless d J o s (Some e) = kill_unless o (fault_refusal d J o)

-- what a device's answer adds to a journal: the end of the open action; or if the device failed, or answered what is
-- not a state of the object, its kill; or nothing if no action is open
abbrev pub entries_of_answer : Domain → List Entry → ℕ → Result ℕ DeviceFault → List Entry
entries_of_answer d J o (Ok s) = end_unless d J o s (answer_refusal d J o s)
entries_of_answer d J o (Err e) = kill_unless o (fault_refusal d J o)
