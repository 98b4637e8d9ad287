use Rattle.smi_carried.proofs.OnceLines.{no_once_front, no_once_name, no_once_number, no_once_place, no_once_what, once_read}
use Rattle.smi_carried.proofs.onces.next_words.Goals as goal

pub returns-in_default-clause-none : goal.returns-in_default-clause-none
returns-in_default-clause-none c = no_once_front c.args.domain.now c.args.text.now c.in_default.ensures

pub returns-in_default-next_name-clause-none : goal.returns-in_default-next_name-clause-none
returns-in_default-next_name-clause-none c =
    no_once_name c.args.domain.now c.objects.ensures.sound c.requires c.args.text.now c.in-Some.names.now
    c.in-Some.ensures c.in_default-next_name.ensures.none

pub returns-in_default-next_number-clause-none : goal.returns-in_default-next_number-clause-none
returns-in_default-next_number-clause-none c =
    no_once_number c.args.domain.now c.objects.ensures.sound c.requires c.args.text.now c.in-Some.names.now
    c.in-Some.ensures _ _ c.in-Some-next_name.ensures.some.0 c.in-Some-next_name.ensures.some.1
    c.in_default-next_number.ensures.none

pub returns-in_default-next_place-clause-none : goal.returns-in_default-next_place-clause-none
returns-in_default-next_place-clause-none c =
    no_once_place c.args.domain.now c.objects.ensures.sound c.requires c.args.text.now c.in-Some.names.now
    c.in-Some.ensures _ _ c.in-Some-next_name.ensures.some.0 c.in-Some-next_name.ensures.some.1
    c.in-Some-next_number.number _ c.in-Some-next_number.ensures.held c.in-Some-next_number.ensures.some
    c.in_default-next_place.ensures.none

pub returns-in_default-next_what-clause-none : goal.returns-in_default-next_what-clause-none
returns-in_default-next_what-clause-none c =
    no_once_what c.args.domain.now c.objects.ensures.sound c.requires c.args.text.now c.in-Some.names.now
    c.in-Some.ensures _ _ c.in-Some-next_name.ensures.some.0 c.in-Some-next_name.ensures.some.1
    c.in-Some-next_number.number _ c.in-Some-next_number.ensures.held c.in-Some-next_number.ensures.some
    _ _ c.in-Some-next_place.ensures.some c.in_default-next_what.ensures.none

pub returns-clause-some : goal.returns-clause-some
returns-clause-some c =
    once_read c.args.domain.now c.objects.ensures.sound c.requires c.args.text.now c.in-Some.names.now
    c.in-Some.ensures _ _ c.in-Some-next_name.ensures.some.0 c.in-Some-next_name.ensures.some.1
    c.in-Some-next_number.number _ c.in-Some-next_number.ensures.held c.in-Some-next_number.ensures.some
    _ _ c.in-Some-next_place.ensures.some _ _ c.in-Some-next_what.ensures.some.0 c.in-Some-next_what.ensures.some.1
