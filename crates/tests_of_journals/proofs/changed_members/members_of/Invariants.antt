-- Sets have objects of the domain, none of them twice.
use Rattle.smi_journal_entries.specs.Sets.{AreOf}
use Rattle.tests_of_journals.proofs.changed_members.members_of.Given as goal

abbrev pub invariant-loop-change : goal.invariant-loop-change
invariant-loop-change l = AreOf l.domain l.members
