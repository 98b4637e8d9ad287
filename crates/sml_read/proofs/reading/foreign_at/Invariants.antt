use Rattle.std.proofs.Common.{◌≡◌, ◌≤◌, take, None}
use Rattle.sml_read.specs.Promise.{first_foreign}
use Rattle.sml_read.proofs.reading.foreign_at.Given as goal

-- no byte before this one is above 0x7F, if the greatest is not
abbrev pub invariant-loop-b : goal.invariant-loop-b
invariant-loop-b l = l.most ≤ 127 → first_foreign (take l.b-index l.text) ≡ None
