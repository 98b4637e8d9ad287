-- The devices of plans.
use Rattle.std.proofs.Common.{◌≡◌, ◌∙◌, ℕ, suc, ◌+◌, Bool, true, false, cond, List, [], ◌∷◌, length, refl, sym}
use Rattle.std.proofs.Common.{ap, arith}
use Rattle.std.specs.List.{filter, range_with_len}
use Rattle.sml_domain.specs.Domain.{Domain}
use Rattle.sml_domain.specs.Lookups.{associated_at}
use Rattle.smi_run_plan.specs.Devices.{devices_from}
use Rattle.smi_run_plan.specs.Plans.{IsPlanOfText}
use Rattle.smi_run_plan.specs.declared.device.ScriptDevice.{ScriptDevice}
use Rattle.smi_run_plan.specs.declared.plan.Plan.{Plan}
use Rattle.smirun_run.specs.Running.{HasDevices}

-- how many of `n` objects, from one on, have devices
abbrev counted : Domain → ℕ → ℕ → ℕ
counted d o n = length (filter (associated_at d) (range_with_len o n))

-- one device for each object that has one
devices_counted : (d : Domain) (o : ℕ) (xs : List ScriptDevice) → length (devices_from d o xs) ≡ counted d o (length xs)
devices_counted d o [] = refl
devices_counted d o (x ∷ xs) =
    let next : o + 1 ≡ suc o = omega arith in
    by (associated_at d o) (devices_counted d (suc o) xs ∙ ap (λ k. counted d k (length xs)) (sym next))
  where
    more : List ScriptDevice
    more = devices_from d (suc o) xs

    rest : List ℕ
    rest = filter (associated_at d) (range_with_len (o + 1) (length xs))

    by : (b : Bool) → length more ≡ length rest → length (cond b (x ∷ more) more) ≡ length (cond b (o ∷ rest) rest)
    by true e = ap suc e
    by false e = e

-- a plan has the devices of its domain
pub has_devices : {d : Domain} {text : List ℕ} {p : Plan} → IsPlanOfText d text p → HasDevices d p
has_devices {d} {text} {p} h =
    devices_counted d 0 p.answers.devices.items
    ∙ ap (λ k. length (filter (associated_at d) (range_with_len 0 k))) h.plan.devices.count
