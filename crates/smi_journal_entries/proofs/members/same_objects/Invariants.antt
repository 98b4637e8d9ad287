-- The lists have one length, and the objects before the place are the same.
use Rattle.std.proofs.Common.{◌≡◌, ◌<◌, ℕ, get_or, length}
use Rattle.smi_journal_entries.proofs.members.same_objects.Given as goal

abbrev pub invariant-loop-place : goal.invariant-loop-place
invariant-loop-place l =
    (length l.list ≡ length l.others) × ((k : ℕ) → k < l.place → get_or l.list k 0 ≡ get_or l.others k 0)
