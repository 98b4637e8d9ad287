use Rattle.std.proofs.Common.{◌≡◌, ap, ◌++◌, ◌∷◌, [], subst, sym, refl, get_or, ◌∙◌, ◌+◌, take, arith}
use Rattle.std.proofs.lemmas.Grind.{common_steps}
use Rattle.std.proofs.lemmas.List.{take_more}
use Rattle.smi_world.specs.declared.step.Step.{Step}
use Rattle.smi_world.specs.declared.step.Step.TheVariants as step
use Rattle.smi_world.specs.World.{Setup, opening}
use Rattle.smi_world.specs.Steps.{Run}
use Rattle.sml_domain.specs.Sound.{IsSound}
use Rattle.smi_core.proofs.Extended.{run_more, is_reached, reached}
use Rattle.smi_core.proofs.runs.run.Goals as goal

pub loop-step-init : goal.loop-step-init
loop-step-init c = record { run = rw c.new-answers.ensures.items c.in_ok-core.ensures.opening; setup = refl }

pub loop-step-preserved : goal.loop-step-preserved
loop-step-preserved c =
    let i = c.loop-step in
    let none : Step = step.Start [] in
    let item : get_or c.args.steps.now i.step-index none ≡ c.step-item.result = grind (arith, common_steps) in
    let w2 = c.step-answer.new.self.world in
    let more = take_more c.args.steps.now i.step-index none (omega arith) in
    let pushed : c.push.new.self.items ≡ i.answers.items ++ c.step-answer.result ∷ [] = c.in-Ok.ensures.items in
    let P : Setup → Type 0 = λ m. Run m (opening m) (take (i.step-index + 1) c.args.steps.now) c.push.new.self.items w2 in
    record {
      run = subst P (sym c.step-answer.ensures.setup) (rw (more, item, pushed) (run_more i.core.setup (opening i.core.setup) (take i.step-index c.args.steps.now) i.answers.items i.core.world w2 c.step-item.result c.step-answer.result i.invariant.run c.step-answer.ensures.step));
      setup = c.step-answer.ensures.setup ∙ i.invariant.setup;
    }

pub returns-clause-setup : goal.returns-clause-setup
returns-clause-setup c = c.loop-step.invariant.setup ∙ c.in_ok-core.ensures.setup

pub returns-clause-run : goal.returns-clause-run
returns-clause-run c =
    let i = c.loop-step in
    let setup = i.invariant.setup ∙ c.in_ok-core.ensures.setup in
    reached i.core.setup _ c.args.steps.now i.step-index i.answers.items i.core.world (ap (λ (m : Setup). m.domain) setup) (subst IsSound c.deref.ensures c.objects-sound.ensures.sound) (omega arith) i.invariant.run

pub returns-clause-legal : goal.returns-clause-legal
returns-clause-legal c =
    let i = c.loop-step in
    let setup = i.invariant.setup ∙ c.in_ok-core.ensures.setup in
    c.every_run.ensures.legal i.core.setup i.core.world (is_reached _ _ c.args.steps.now i.step-index i.answers.items _ (ap (λ (m : Setup). m.domain) setup) (subst IsSound c.deref.ensures c.objects-sound.ensures.sound) (omega arith) i.invariant.run)

pub returns-clause-front : goal.returns-clause-front
returns-clause-front c =
    let i = c.loop-step in
    let setup = i.invariant.setup ∙ c.in_ok-core.ensures.setup in
    c.every_run.ensures.front i.core.setup i.core.world (is_reached _ _ c.args.steps.now i.step-index i.answers.items _ (ap (λ (m : Setup). m.domain) setup) (subst IsSound c.deref.ensures c.objects-sound.ensures.sound) (omega arith) i.invariant.run)
