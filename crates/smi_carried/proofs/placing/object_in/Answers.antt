use Rattle.smi_carried.proofs.Places.{object_found, object_missing}
use Rattle.smi_carried.proofs.placing.object_in.Goals as goal

pub returns-in-Some-object-clause-some : goal.returns-in-Some-object-clause-some
returns-in-Some-object-clause-some c = (
  c.in-Some-object.ensures.within,
  object_found c.args.domain.now c.objects.ensures.sound c.in-Some-object.o c.in-Some.name c.args.bytes.now
      c.in-Some-object.ensures.is c.in-Some.ensures.some,
)

pub returns-in-None-clause-none : goal.returns-in-None-clause-none
returns-in-None-clause-none c =
    object_missing c.args.domain.now c.objects.ensures.sound c.requires c.in-Some.name c.args.bytes.now
    c.in-None.ensures.is c.in-Some.ensures.some
