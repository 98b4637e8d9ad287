use Rattle.smi_carried.proofs.Places.{no_object_word, no_place_words, no_state_word, no_version_word, place_read}
use Rattle.smi_carried.proofs.placing.next_place.Goals as goal

pub returns-in_default-clause-none : goal.returns-in_default-clause-none
returns-in_default-clause-none c =
    no_object_word c.args.domain.now c.objects.ensures.sound c.requires c.args.text.now c.in_default.ensures.none

pub returns-in_default-cut-clause-none : goal.returns-in_default-cut-clause-none
returns-in_default-cut-clause-none c =
    no_state_word c.args.domain.now c.objects.ensures.sound c.requires c.args.text.now _ _
    c.in-Some.ensures.some.0 c.in-Some.ensures.some.1 c.in_default-cut.ensures.none

pub returns-in_default-next_number-clause-none : goal.returns-in_default-next_number-clause-none
returns-in_default-next_number-clause-none c =
    no_version_word c.args.domain.now c.objects.ensures.sound c.requires c.args.text.now _ _
    c.in-Some.ensures.some.0 c.in-Some.ensures.some.1 _ _ c.in-Some-cut.ensures.some.0 c.in-Some-cut.ensures.some.1
    c.in_default-next_number.ensures.none

pub returns-in-Some-place_in-clause-some : goal.returns-in-Some-place_in-clause-some
returns-in-Some-place_in-clause-some c =
    place_read c.args.domain.now c.objects.ensures.sound c.requires c.args.text.now _ _
    c.in-Some.ensures.some.0 c.in-Some.ensures.some.1 _ _ c.in-Some-cut.ensures.some.0 c.in-Some-cut.ensures.some.1
    c.in-Some-next_number.version _ c.in-Some-next_number.ensures.some c.in-Some-next_number.ensures.held
    c.in-Some-place_in.place c.in-Some-place_in.ensures.some

pub returns-in-None-clause-none : goal.returns-in-None-clause-none
returns-in-None-clause-none c =
    no_place_words c.args.domain.now c.objects.ensures.sound c.requires c.args.text.now _ _
    c.in-Some.ensures.some.0 c.in-Some.ensures.some.1 _ _ c.in-Some-cut.ensures.some.0 c.in-Some-cut.ensures.some.1
    c.in-Some-next_number.version _ c.in-Some-next_number.ensures.some c.in-Some-next_number.ensures.held
    c.in-None.ensures.none
