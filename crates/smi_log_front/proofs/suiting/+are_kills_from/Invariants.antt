use Rattle.std.proofs.Common.{length}
use Rattle.smi_log_front.proofs.suiting.+are_kills_from.Given as goal

abbrev pub decreases-are_kills_from : goal.decreases-are_kills_from
decreases-are_kills_from l = length l.kills.now
