-- The list has those of the blocks so far.
use Rattle.std.proofs.Common.{◌≡◌, ◌<◌, ◌≤◌, All, Contains}
use Rattle.smi_reach.specs.declared.unreached.Unreached.{Unreached}
use Rattle.smi_reach.specs.Reach.{ComesTo}
use Rattle.smi_reach.specs.Unreached.{IsUnreached}
use Rattle.smi_reach.proofs.Left.{ListsUpTo}
use Rattle.smi_reach.proofs.unreached.unreached_of.Given as goal

abbrev pub invariant-loop-block : goal.invariant-loop-block
invariant-loop-block l = ListsUpTo l.domain l.list.items l.block
