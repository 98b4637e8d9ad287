use Rattle.std.proofs.Common.{◌≡◌, ◌++◌, ℕ, List, length}
use Rattle.std.specs.Io.KnownBytes.{Appends, Keeps}
use Rattle.smirun_live.proofs.log.send_all.Given as goal

-- a part of the lines was written
abbrev pub invariant-loop-rest : goal.invariant-loop-rest
invariant-loop-rest g l =
    (sent : List ℕ) × (l.fn.lines ≡ sent ++ l.rest)
    × Appends (g.F.Write.contents l.fn.file) (g.F.Write.contents l.file) sent
    × Keeps (g.F.Unbuffered.on_disk l.fn.file) (g.F.Unbuffered.on_disk l.file)

abbrev pub decreases-loop-rest : goal.decreases-loop-rest
decreases-loop-rest g l = length l.rest
