use Rattle.std.proofs.Common.{ℕ, ◌≤◌, Bool, true, false, cond}
use Rattle.smirun_commands.proofs.check.tell_files.Goals as goal

-- one of two is as small as both
one_of_two : (first : Bool) (m n : ℕ) → m ≤ 1 → n ≤ 1 → cond first m n ≤ 1
one_of_two true m n small_m small_n = small_m
one_of_two false m n small_m small_n = small_n

pub loop-file-preserved : goal.loop-file-preserved
loop-file-preserved g c = rw c.max-worst.ensures (one_of_two _ _ _ c.loop-file.invariant c.status.ensures.range)
