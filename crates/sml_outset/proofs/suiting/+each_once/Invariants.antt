use Rattle.std.proofs.Common.{length}
use Rattle.sml_outset.proofs.suiting.+each_once.Given as goal

abbrev pub decreases-each_once : goal.decreases-each_once
decreases-each_once l = length l.objects.now
