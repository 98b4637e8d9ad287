-- The states before the turn's are those of their objects.
use Rattle.std.proofs.Common.{All, take}
use Rattle.smi_audit_rules.specs.Rules as rules
use Rattle.smi_audit.proofs.judge.are_states.Given as goal

abbrev pub invariant-loop-reading : goal.invariant-loop-reading
invariant-loop-reading l = All (rules.IsStateNow l.books.domain l.books.journal) (take l.reading-index l.readings)
