use Rattle.std.proofs.Common.{take}
use Rattle.smi_core.specs.Feeds.{HasNoEnd}
use Rattle.smi_core.proofs.schedule.front_length.Given as goal

-- no line feed was among those before
abbrev pub invariant-loop-place : goal.invariant-loop-place
invariant-loop-place l = HasNoEnd (take l.place l.bytes)
