use Rattle.std.proofs.Common.{◌≡◌, ◌++◌, drop, map}
use Rattle.smi_journal_entries.specs.Sets.{as_declared}
use Rattle.smi_journal_entries.proofs.members.Members.declared.Given as goal

abbrev pub invariant-loop-group : goal.invariant-loop-group
invariant-loop-group l = l.sets.items ++ map as_declared (drop l.group-index l.groups) ≡ map as_declared l.groups
