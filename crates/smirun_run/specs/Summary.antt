-- The text of the summary of a run.
use Rattle.std.specs.Prelude.{ℕ, zero, suc, ◌<◌, ◌+◌, ◌-◌, if◌then◌else◌, List, [], ◌++◌, length, map, slice_index_or}
use Rattle.std.specs.Prelude.{codes, flat_map}
use Rattle.std.specs.List.{range_with_len}
use Rattle.sml_text.specs.Decimal.{decimal_text}
use Rattle.sml_domain.specs.Domain.{Domain}
use Rattle.smi_journal_entries.specs.declared.entry.Entry.{Entry}
use Rattle.smi_journal_entries.specs.declared.entry.Sender.{Sender}
use Rattle.smi_journal_entries.specs.declared.entry.Sender.TheVariants.{Operator, Object}
use Rattle.smi_journal_entries.specs.Words.{is_open, posts_between, state_of}
use Rattle.smi_journal.specs.CallText.{object_name_text, spaced, state_name_text}
use Rattle.smi_journal.specs.EntryText.{sender_text}
use Rattle.smi_mail.specs.declared.mailboxes.TheConstants.{MAX_SESSIONS}
use Rattle.smi_run.specs.declared.player.Refusals.{Refusals}
use Rattle.smi_run_report.specs.Reports.{ReportSide, left_from}
use Rattle.smi_run_report.specs.Told.{accepted_in}
use Rattle.smi_run_shared.specs.declared.ending.ServeEnd.{ServeEnd}
use Rattle.smi_run_shared.specs.declared.ending.ServeEnd.TheVariants.{Quiet, Limit, Memory}
use Rattle.smirun_run.specs.declared.summary.Group.{Group}
use Rattle.smirun_run.specs.declared.summary.Group.TheVariants.{Accepted, Left}

-- the line of the end
abbrev pub ending_line : ServeEnd → List ℕ
ending_line Quiet = codes "end Quiet\n"
ending_line Limit = codes "end Limit\n"
ending_line Memory = codes "end Memory\n"

-- the line of an object's state
abbrev pub standing_line : Domain → List Entry → ℕ → List ℕ
standing_line d J o =
    codes "state" ++ (spaced (object_name_text d o) ++ (spaced (state_name_text d (state_of d o J)) ++ codes "\n"))

-- the line of an object, if its action is open
abbrev pub stalled_line : Domain → List Entry → ℕ → List ℕ
stalled_line d J o = if is_open o J then codes "stalled" ++ (spaced (object_name_text d o) ++ codes "\n") else []

-- a line that ends with a count, which is left out with count 0
abbrev pub counted_line : List ℕ → ℕ → List ℕ
counted_line front zero = []
counted_line front (suc n) = front ++ (spaced (decimal_text (suc n)) ++ codes "\n")

-- the word of a group
abbrev pub group_word : Group → List ℕ
group_word Accepted = codes "accepted"
group_word Left = codes "left"

-- how many requests of a sender there are at an object: accepted, or left
abbrev pub summed : ReportSide → Group → Sender → ℕ → ℕ
summed r Accepted (Operator k) o = length (accepted_in r.accepted (k - 1) o)
summed r Accepted (Object a) o = length (posts_between a o r.journal)
summed r Left s o = length (left_from r.drained s o)

-- the line of a group for a sender and an object
abbrev pub summed_line : Domain → ReportSide → Group → Sender → ℕ → List ℕ
summed_line d r g s o =
    counted_line (group_word g ++ (spaced (sender_text d s) ++ spaced (object_name_text d o))) (summed r g s o)

-- the lines of all objects, as declared
abbrev pub object_lines : Domain → (ℕ → List ℕ) → List ℕ
object_lines d line = flat_map line (range_with_len 0 (length d.objects))

-- the sessions, and then the objects as declared
unfoldable pub all_senders : Domain → List Sender
all_senders d = map (λ k. Operator (k + 1)) (range_with_len 0 MAX_SESSIONS)
    ++ map Object (range_with_len 0 (length d.objects))

-- the lines of a group for a sender, by objects
abbrev pub sender_lines : Domain → ReportSide → Group → Sender → List ℕ
sender_lines d r g s = object_lines d (summed_line d r g s)

-- the lines of a group: by senders, and of each by objects
abbrev pub group_lines : Domain → ReportSide → Group → List ℕ
group_lines d r g = flat_map (sender_lines d r g) (all_senders d)

-- how many lines of a session were refused
abbrev pub all_refused : Refusals → ℕ
all_refused r = r.all

-- the line of a session's refused lines, where the first session is at 0
abbrev pub refused_line : List ℕ → ℕ → List ℕ
refused_line counts k = counted_line (codes "refused @" ++ decimal_text (k + 1)) (slice_index_or counts k 0)

-- the summary of a report, with the end of its run, and how many lines of each session were refused
unfoldable pub summary_text : Domain → ReportSide → ServeEnd → List ℕ → List ℕ
summary_text d r end refused =
    ending_line end
    ++ (object_lines d (standing_line d r.journal)
    ++ (object_lines d (stalled_line d r.journal)
    ++ (group_lines d r Accepted
    ++ (group_lines d r Left
    ++ flat_map (refused_line refused) (range_with_len 0 (length refused))))))

-- a sender whose requests are counted: a session, or an object of the domain
abbrev pub IsCounted : Domain → Sender → Type 0
IsCounted d (Operator k) = Unit {0}
IsCounted d (Object a) = a < length d.objects
