use Rattle.smi_outset_text.specs.Reading.{NoMemberOf}
use Rattle.smi_outset_text.proofs.members.member_among.Given as goal

-- the name of none of those before is in front
abbrev pub invariant-loop-o : goal.invariant-loop-o
invariant-loop-o l = NoMemberOf l.domain l.text l.objects l.o-index
