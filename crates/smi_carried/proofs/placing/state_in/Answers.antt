use Rattle.std.proofs.Common.{◌∙◌, sym}
use Rattle.smi_carried.proofs.Places.{state_found, state_missing, state_other, state_unnamed}
use Rattle.smi_carried.proofs.placing.state_in.Goals as goal

pub returns-in_default-clause-none : goal.returns-in_default-clause-none
returns-in_default-clause-none c =
    state_unnamed c.args.domain.now c.objects.ensures.sound c.requires c.args.o c.args.bytes.now
    c.in_default.ensures.none

pub returns-in_default-state-clause-none : goal.returns-in_default-state-clause-none
returns-in_default-state-clause-none c =
    state_missing c.args.domain.now c.objects.ensures.sound c.requires c.args.o c.in-Some.name c.args.bytes.now
    c.in_default-state.ensures.is c.in-Some.ensures.some

pub returns-then-is_state-clause-some : goal.returns-then-is_state-clause-some
returns-then-is_state-clause-some c = (
  sym c.is_state.ensures ∙ c.if-is_state.true,
  state_found c.args.domain.now c.objects.ensures.sound c.in-Some-state.s c.in-Some.name c.args.bytes.now
      c.in-Some-state.ensures.is c.in-Some.ensures.some,
)

pub returns-else-is_state-clause-none : goal.returns-else-is_state-clause-none
returns-else-is_state-clause-none c =
    state_other c.args.domain.now c.objects.ensures.sound c.requires c.args.o c.in-Some-state.s c.in-Some.name
    c.args.bytes.now c.in-Some-state.ensures.is c.in-Some.ensures.some (sym c.is_state.ensures ∙ c.if-is_state.false)
