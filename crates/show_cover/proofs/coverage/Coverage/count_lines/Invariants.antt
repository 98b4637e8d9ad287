-- The past is one of the domain.
use Rattle.std.proofs.Common.{◌≡◌, length}
use Rattle.show_cover.proofs.coverage.Coverage.count_lines.Given as goal

-- the bytes that are left
abbrev pub decreases-loop-rest : goal.decreases-loop-rest
decreases-loop-rest l = length l.rest

abbrev pub invariant-loop-rest : goal.invariant-loop-rest
invariant-loop-rest l = l.past.books.domain ≡ l.domain
