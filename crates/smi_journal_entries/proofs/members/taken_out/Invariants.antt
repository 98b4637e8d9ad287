use Rattle.std.proofs.Common.{◌≡◌, ◌++◌, drop}
use Rattle.smi_journal_entries.specs.Sets.{without}
use Rattle.smi_journal_entries.proofs.members.taken_out.Given as goal

abbrev pub invariant-loop-other : goal.invariant-loop-other
invariant-loop-other l = l.list.items ++ without l.object (drop l.other-index l.members) ≡ without l.object l.members
