use Rattle.std.proofs.Common.{◌≡◌, map, take}
use Rattle.smi_meaning.specs.Conditions.{object_read}
use Rattle.smi_audit_follower.proofs.matching.are_of.Given as goal

abbrev pub invariant-loop-i : goal.invariant-loop-i
invariant-loop-i l = map object_read (take l.i l.readings) ≡ take l.i l.objects
