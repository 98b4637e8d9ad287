-- Which receipts agree with a journal.
use Rattle.std.specs.Prelude.{Bool, false, ◌==◌, ◌&&◌, ◌||◌, not, List, Option, None, Some, slice_get}
use Rattle.std.specs.List.{filter}
use Rattle.smi_journal_entries.specs.declared.entry.Cause.{Cause}
use Rattle.smi_journal_entries.specs.declared.entry.Cause.TheVariants.{By, Fault}
use Rattle.smi_journal_entries.specs.declared.entry.Entry.{Entry}
use Rattle.smi_journal_entries.specs.declared.entry.Entry.TheVariants.{Start, Post, Wait, Seen, End, Kill, Insert, Remove, NoMember}
use Rattle.smi_run_report.specs.declared.told.Receipt.{Receipt}

-- whether a kill has the cause that a receipt tells: the session itself, if the receipt says that it is its own
abbrev pub is_by : Receipt → Cause → Bool
is_by r (By k) = not r.own || (k == r.session)
is_by r Fault = not r.own

-- whether there is an entry, which is the kill that a receipt tells
abbrev pub is_kill_told : Receipt → Option Entry → Bool
is_kill_told r None = false
is_kill_told r (Some (Start o s n a args)) = false
is_kill_told r (Some (Post a o v b args)) = false
is_kill_told r (Some (Wait o)) = false
is_kill_told r (Some (Seen o rs)) = false
is_kill_told r (Some (End o e)) = false
is_kill_told r (Some (Kill o c)) = (o == r.object) && is_by r c
is_kill_told r (Some (Insert o member set)) = false
is_kill_told r (Some (Remove o member set)) = false
is_kill_told r (Some (NoMember o set)) = false

-- whether a receipt is met: the entry at its place is the kill that it tells
abbrev pub is_met : List Entry → Receipt → Bool
is_met J r = is_kill_told r (slice_get J r.place)

-- the receipts that are not met, in order
abbrev pub unmet_among : List Entry → List Receipt → List Receipt
unmet_among J receipts = filter (λ r. not (is_met J r)) receipts
