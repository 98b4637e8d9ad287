-- Which steps count.
use Rattle.std.proofs.Common.{◌≡◌, ◌≤◌, ◌↔◌, ℕ, Result, Ok, Err, refl, arith}
use Rattle.smi_world.specs.declared.step.Step.{Step}
use Rattle.smi_world.specs.declared.step.Step.TheVariants as step
use Rattle.smi_world.specs.declared.step.Answer.{Answer}
use Rattle.smi_world.specs.declared.step.Answer.TheVariants as answer
use Rattle.smi_world.specs.declared.refusal.StepError.{StepError}
use Rattle.smi_world_rest.specs.OwnSteps.{IsIdle, change_of, own_step, OwnStepsCount}

pub change_most : (r : Result Answer StepError) → change_of r ≤ 1
change_most (Err e) = omega arith
change_most (Ok answer.Still) = omega arith
change_most (Ok (answer.Accepted n args)) = omega arith
change_most (Ok (answer.Entries first count)) = omega arith
change_most (Ok (answer.Changed p v)) = omega arith

pub refused_none : (s : Step) (e : StepError) → own_step s (Err e) ≡ 0
refused_none (step.Start x) e = refl
refused_none (step.Go x) e = refl
refused_none (step.Request k x y args) e = refl
refused_none (step.Answer x y) e = refl
refused_none (step.Fault x) e = refl
refused_none (step.Kill x k) e = refl

zero_not_one : ◌≡◌ {A = ℕ} 0 1 → ⊥
zero_not_one h = omega (arith, h)

idle_or_one : (r : Result Answer StepError) → (change_of r ≡ 1) ↔ (¬ (IsIdle r))
idle_or_one (Err e) = (λ h. absurd (zero_not_one h), λ busy. absurd (busy tt))
idle_or_one (Ok answer.Still) = (λ h. absurd (zero_not_one h), λ busy. absurd (busy tt))
idle_or_one (Ok (answer.Accepted n args)) = (λ h idle. idle, λ busy. refl)
idle_or_one (Ok (answer.Entries first count)) = (λ h idle. idle, λ busy. refl)
idle_or_one (Ok (answer.Changed p v)) = (λ h idle. idle, λ busy. refl)

pub own_steps_count : OwnStepsCount
own_steps_count (step.Start x) r = (λ h. (tt, (idle_or_one r).0 h), λ h. (idle_or_one r).1 h.1)
own_steps_count (step.Go x) r = (λ h. (tt, (idle_or_one r).0 h), λ h. (idle_or_one r).1 h.1)
own_steps_count (step.Request k x y args) r = (λ h. absurd (zero_not_one h), λ h. absurd h.0)
own_steps_count (step.Answer x y) r = (λ h. absurd (zero_not_one h), λ h. absurd h.0)
own_steps_count (step.Fault x) r = (λ h. absurd (zero_not_one h), λ h. absurd h.0)
own_steps_count (step.Kill x k) r = (λ h. absurd (zero_not_one h), λ h. absurd h.0)
