-- What devices of scripts answer.
use Rattle.std.specs.Prelude.{ℕ, suc, List, [], ◌∷◌, Option, nat_eq, if◌then◌else◌}
use Rattle.indexmap.specs.IndexMap.{get}
use Rattle.sml_domain.specs.Domain.{Domain}
use Rattle.sml_domain.specs.Lookups.{associated_at}
use Rattle.smi_run_plan.specs.declared.device.ScriptDevice.{ScriptDevice}

-- the state by which a device answers an action
abbrev pub answer_to : ScriptDevice → ℕ → Option ℕ
answer_to x a = get nat_eq x.states a

-- of a device for each object, where the first is for the object with a number, those of objects that have devices
abbrev pub devices_from : Domain → ℕ → List ScriptDevice → List ScriptDevice
devices_from d o [] = []
devices_from d o (x ∷ xs) = if associated_at d o then x ∷ devices_from d (suc o) xs else devices_from d (suc o) xs
