-- One object more was looked at.
use Rattle.std.proofs.Common.{◌∙◌, ◌+◌, sym, ap}
use Rattle.std.proofs.lemmas.List.{length_push}
use Rattle.sml_domain.specs.Lookups.{associated_at}
use Rattle.smi_run_plan.proofs.Cuts.{taken_more, left_more}
use Rattle.smi_run_plan.proofs.answers.DeviceAnswers.devices.Goals as goal

pub loop-o-preserved-in-Continue-1 : goal.loop-o-preserved-in-Continue-1
loop-o-preserved-in-Continue-1 c =
    let steps = c.in-Some.ensures.steps in
    let i = c.loop-o.invariant in
    let d = c.args.domain.now in (
      steps.2 ∙ ap (λ n. n + 1) i.0 ∙ sym (length_push c.loop-o.yielded (c.in-Some.o, c.in-Some.device)),
      c.in_ok-push.ensures.items ∙ taken_more d c.loop-o.yielded c.in-Some.o c.in-Some.device (steps.1
          ∙ i.0) c.loop-o.devices.items i.1
          (ap (associated_at d) (sym c.new.ensures) ∙ sym c.associated.ensures ∙ c.if-associated.true),
    )

pub loop-o-preserved : goal.loop-o-preserved
loop-o-preserved c =
    let steps = c.in-Some.ensures.steps in
    let i = c.loop-o.invariant in
    let d = c.args.domain.now in (
      steps.2 ∙ ap (λ n. n + 1) i.0 ∙ sym (length_push c.loop-o.yielded (c.in-Some.o, c.in-Some.device)),
      left_more d c.loop-o.yielded c.in-Some.o c.in-Some.device (steps.1 ∙ i.0) c.loop-o.devices.items i.1
          (ap (associated_at d) (sym c.new.ensures) ∙ sym c.associated.ensures ∙ c.if-associated.false),
    )
