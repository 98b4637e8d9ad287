use Rattle.std.proofs.Common.{◌≡◌, length}
use Rattle.smi_live.specs.Managing.{keeper_of}
use Rattle.smirun_live.proofs.Again.{GoesOn}
use Rattle.smirun_live.proofs.performing.perform.Given as goal

-- what is still to be made leads on from all that was made
abbrev pub invariant-loop-line : goal.invariant-loop-line
invariant-loop-line l =
    GoesOn (keeper_of l.fn.manager) l.fn.text (keeper_of l.manager) l.rest × (l.manager.core.setup ≡ l.fn.manager.core.setup)

abbrev pub decreases-loop-line : goal.decreases-loop-line
decreases-loop-line l = length l.rest
