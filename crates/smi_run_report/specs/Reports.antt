-- What a report shows.
use Rattle.std.specs.Prelude.{◌≡◌, ◌<◌, ◌≤◌, ◌+◌, ◌++◌, ℕ, List, [], length, map}
use Rattle.std.specs.List.{filter, range_with_len}
use Rattle.sml_domain.specs.Domain.{Domain}
use Rattle.sml_domain.specs.Lookups.{associated_at}
use Rattle.smi_journal_entries.specs.declared.entry.Sender.{Sender}
use Rattle.smi_journal_entries.specs.declared.entry.Sender.TheVariants.{Operator, Object}
use Rattle.smi_journal_entries.specs.declared.entry.Entry.{Entry}
use Rattle.smi_journal_entries.specs.Requests.{Request, from_sender}
use Rattle.smi_journal_entries.specs.Words.{starts_at, posts_between}
use Rattle.smi_meaning.specs.Legal.{IsLegal}
use Rattle.smi_journal_entries.specs.declared.journal.Format.TheVariants.{Two}
use Rattle.smi_mail.specs.Letters.{requests_in}
use Rattle.smi_mail.specs.Drains.{Final, IsNoSession, final_at, final_sent}
use Rattle.smi_run_report.specs.declared.told.Accepted.{Accepted}
use Rattle.smi_run_report.specs.declared.told.Receipt.{Receipt}
use Rattle.smi_run_report.specs.Told.{told_request, accepted_in}

-- what contracts see of a report: its journal, what each session was told is accepted at each object, what the
-- mailboxes held, the receipts that are not met, and how many devices there are
pub record ReportSide : Type 0 where
  pub journal : List Entry
  pub accepted : List (List (List Accepted))
  pub drained : List Final
  pub unmet : List Receipt
  pub devices : ℕ

-- what is left of a sender at an object
abbrev pub left_from : List Final → Sender → ℕ → List Request
left_from end s o = from_sender s (requests_in (final_at end o).left)

-- how many objects of a domain have devices
abbrev pub device_count : Domain → ℕ
device_count d = length (filter (associated_at d) (range_with_len 0 (length d.objects)))

-- What each session was told is accepted at an object is what was started of it there, followed by what is left of
-- it; so is what each object posted there. A session that the run does not have was told nothing, and nothing is
-- started or left of it. What the mailbox has of any sender is what was started of it, followed by what is left of it.
-- What was started is what was taken out of the mailbox, what objects posted is what they sent, and the journal is
-- legal.
pub record IsFinalReport (d : Domain) (sessions : ℕ) (J : List Entry) (accepted : List (List (List Accepted)))
    (end : List Final) : Type 0 where
  pub operators : (k o : ℕ) → o < length d.objects →
      map (told_request (k + 1)) (accepted_in accepted k o)
      ≡ from_sender (Operator (k + 1)) (starts_at o J) ++ left_from end (Operator (k + 1)) o
  pub untold : (k o : ℕ) → sessions ≤ k → accepted_in accepted k o ≡ []
  pub nobody : (k o : ℕ) → IsNoSession sessions k → o < length d.objects →
      from_sender (Operator k) (starts_at o J) ++ left_from end (Operator k) o ≡ []
  pub settled : (s : Sender) (o : ℕ) → o < length d.objects →
      requests_in (final_sent end s o) ≡ from_sender s (starts_at o J) ++ left_from end s o
  pub objects_sent : (a o : ℕ) → a < length d.objects → o < length d.objects →
      posts_between a o J ≡ from_sender (Object a) (starts_at o J) ++ left_from end (Object a) o
  pub taken : (o : ℕ) → o < length d.objects → requests_in (final_at end o).taken ≡ starts_at o J
  pub sent : (a o : ℕ) → a < length d.objects → o < length d.objects →
      posts_between a o J ≡ requests_in (final_sent end (Object a) o)
  pub legal : IsLegal Two d J
