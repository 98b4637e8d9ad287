use Rattle.smi_log_front.proofs.KillLines.{KillsSoFar}
use Rattle.smi_log_front.proofs.kills.read_kills.Given as goal

-- the kills of the objects before were read, and no other may come
abbrev pub invariant-loop-o : goal.invariant-loop-o
invariant-loop-o l = KillsSoFar l.domain l.text l.kills.items l.o l.rest
