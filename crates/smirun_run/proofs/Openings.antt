-- Why a runtime is opened, or is not.
use Rattle.std.proofs.Common.{◌≡◌, ◌∙◌, ◌==◌, ℕ, Bool, true, false, not, cond, Option, Some, None, refl, sym}
use Rattle.std.proofs.Common.{◌<◌, ◌≤◌, ⊎_elim, List, length, subst, arith}
use Rattle.std.proofs.lemmas.Bool.{cases_lt, eqb-true, eq-eqb, false≢true}
use Rattle.sml_domain.specs.Domain.{Domain}
use Rattle.smi_mail.specs.Mails.{AreMailNumbers}
use Rattle.smi_mail.specs.declared.mailboxes.MailError.{MailError}
use Rattle.smi_mail.specs.declared.mailboxes.MailError.TheVariants as mailing
use Rattle.smi_run_report.specs.Reports.{device_count}
use Rattle.smi_run_runtime.specs.Opening.{IsOpenError, are_run_numbers, open_refusal}
use Rattle.smi_run_runtime.specs.declared.errors.OpenError.{OpenError}
use Rattle.smi_run_runtime.specs.declared.errors.OpenError.TheVariants.{BadConfig, DeviceCount, Memory}
use Rattle.smi_run_plan.specs.Devices.{devices_from}
use Rattle.smi_run_plan.specs.declared.plan.Plan.{Plan}
use Rattle.smirun_run.specs.Running.{IsOpenFault, IsRunError, config_of, error_of_mail, error_of_open}
use Rattle.smirun_run.specs.declared.running.RunError.{RunError}
use Rattle.smirun_run.specs.declared.running.RunError.TheVariants as run
use Rattle.smirun_run.specs.declared.running.RunNumbers.{RunNumbers}

-- the cause by two tests: whether the numbers are good, and whether the devices are as many as there should be
abbrev cause : Bool → Bool → Option OpenError
cause a b = cond (not a) (Some BadConfig) (cond (not b) (Some DeviceCount) (cond false (Some Memory) None))

both : (a b : Bool) → cause a b ≡ None → (a ≡ true) × (b ≡ true)
both true true e = (refl, refl)
both true false e = absurd (cc)
both false b e = absurd (cc)

first : (a b : Bool) → cause a b ≡ Some BadConfig → a ≡ false
first true true e = absurd (cc)
first true false e = absurd (cc)
first false b e = refl

second : (a b : Bool) → cause a b ≡ Some DeviceCount → b ≡ false
second true true e = absurd (cc)
second true false e = refl
second false b e = absurd (cc)

module _ (d : Domain) (n : RunNumbers) (count : ℕ) where
  -- if there is no cause, the numbers are good, and the devices as many as there should be
  pub open_free : open_refusal d (config_of n) count ≡ None →
      (are_run_numbers (config_of n) ≡ true) × (count ≡ device_count d)
  open_free e =
      let two = both (are_run_numbers (config_of n)) (count == device_count d) e in
      (two.0, eqb-true count (device_count d) two.1)

  -- what the error says
  pub open_fault : (e : OpenError) →
      IsOpenError (open_refusal d (config_of n) count) e → IsOpenFault d n count (error_of_open e)
  open_fault BadConfig h = λ good.
      false≢true (sym (first (are_run_numbers (config_of n)) (count == device_count d) h) ∙ good)
  open_fault DeviceCount h = λ same.
      let other = second (are_run_numbers (config_of n)) (count == device_count d) h in
      false≢true (sym other ∙ eq-eqb count (device_count d) same)
  open_fault Memory h = tt

at_most : {a b : ℕ} → ¬ ¬ (a ≤ b) → a ≤ b
at_most {a} {b} h =
    let more = λ (above : b < a). absurd (h (λ le. omega (arith, above, le))) in
    ⊎_elim more (λ (le : a ≤ b). le) (cases_lt b a)

-- numbers that are not outside their limits are within them
pub mail_within : (capacity sessions : ℕ) → ¬ ¬ AreMailNumbers capacity sessions → AreMailNumbers capacity sessions
mail_within capacity sessions h = (
  at_most (λ no. h (λ w. no w.0)),
  at_most (λ no. h (λ w. no w.1)),
  at_most (λ no. h (λ w. no w.2)),
  at_most (λ no. h (λ w. no w.3)),
)

module _ (d : Domain) (n : RunNumbers) (p : Plan) where
  -- what the error of mailboxes says of a run
  pub mail_fault : (e : MailError) →
      (e ≡ mailing.BadConfig → ¬ AreMailNumbers n.capacity (length p.scripts.items)) →
      IsRunError d n p (error_of_mail e)
  mail_fault mailing.BadConfig h = λ w. h refl w.0
  mail_fault mailing.Memory h = tt

  -- what the error of opening says of a run
  pub run_fault : (e : RunError) (devices : ℕ) → devices ≡ length (devices_from d 0 p.answers.devices.items) →
      IsOpenFault d n devices e → IsRunError d n p e
  run_fault run.BadConfig devices is h = λ w. h w.1
  run_fault run.DeviceCount devices is h = λ same. h (is ∙ same)
  run_fault run.Memory devices is h = tt

  -- out of memory says nothing
  pub no_memory : (e : RunError) → e ≡ run.Memory → IsRunError d n p e
  no_memory e is = subst (IsRunError d n p) (sym is) tt
