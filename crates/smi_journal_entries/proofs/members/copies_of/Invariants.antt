use Rattle.std.proofs.Common.{◌≡◌, ◌++◌, drop}
use Rattle.smi_journal_entries.proofs.members.copies_of.Given as goal

abbrev pub invariant-loop-kept : goal.invariant-loop-kept
invariant-loop-kept l = l.copies.items ++ drop l.kept-index l.sets ≡ l.sets
