use Rattle.smi_carried.proofs.Places.{place_found, place_no_object, place_no_state}
use Rattle.smi_carried.proofs.placing.place_of.Goals as goal

pub returns-in_default-clause-none : goal.returns-in_default-clause-none
returns-in_default-clause-none c =
    place_no_object c.args.domain.now c.objects.ensures.sound c.requires c.args.object.now c.args.state.now
    c.args.version c.in_default.ensures.none

pub returns-in_default-state_in-clause-none : goal.returns-in_default-state_in-clause-none
returns-in_default-state_in-clause-none c =
    place_no_state c.args.domain.now c.objects.ensures.sound c.requires c.in-Some.o c.args.object.now
    c.args.state.now c.args.version c.in-Some.ensures.some.0 c.in-Some.ensures.some.1
    c.in_default-state_in.ensures.none

pub returns-clause-some : goal.returns-clause-some
returns-clause-some c =
    place_found c.args.domain.now c.objects.ensures.sound c.requires c.in-Some.o c.in-Some-state_in.s
    c.args.object.now c.args.state.now c.args.version c.ranges.version.fits c.in-Some.ensures.some.1
    c.in-Some-state_in.ensures.some.0 c.in-Some-state_in.ensures.held c.in-Some-state_in.ensures.some.1
