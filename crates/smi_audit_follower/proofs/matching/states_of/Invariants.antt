use Rattle.std.proofs.Common.{◌≡◌, map, take}
use Rattle.smi_audit_follower.specs.Matching.{reading_state}
use Rattle.smi_audit_follower.proofs.matching.states_of.Given as goal

abbrev pub invariant-loop-reading : goal.invariant-loop-reading
invariant-loop-reading l = l.states.items ≡ map reading_state (take l.reading-index l.readings)
