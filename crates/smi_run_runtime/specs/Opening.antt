-- How runtimes are opened.
use Rattle.std.specs.Prelude.{◌≡◌, ◌≤◌, ◌∷◌, ◌==◌, ◌&&◌, not, nat_le, ℕ, Bool, false, List, [], Option, Some, None, length, map}
use Rattle.std.specs.List.{filter, range_with_len}
use Rattle.sml_domain.specs.Domain.{Domain}
use Rattle.sml_domain.specs.Lookups.{associated_at}
use Rattle.smi_journal_entries.specs.Refusals.{first_standing}
use Rattle.smi_run_report.specs.Reports.{device_count}
use Rattle.smi_run_runtime.specs.declared.errors.OpenError.{OpenError}
use Rattle.smi_run_runtime.specs.declared.errors.OpenError.TheVariants.{BadConfig, DeviceCount, Memory}
use Rattle.smi_run_runtime.specs.declared.opening.Config.{Config}
use Rattle.smi_run_runtime.specs.declared.opening.TheConstants.{MAX_WORKERS, MAX_STARTS}

-- whether the numbers of a run are within their limits
abbrev pub are_run_numbers : Config → Bool
are_run_numbers c =
    nat_le 1 c.workers && nat_le c.workers MAX_WORKERS && nat_le 1 c.max_starts && nat_le c.max_starts MAX_STARTS

-- the causes for which a runtime is not opened, in their order
abbrev pub open_order : List OpenError
open_order = BadConfig ∷ DeviceCount ∷ Memory ∷ []

-- whether a cause stands, where there are `devices` devices
abbrev pub open_stands : Domain → Config → ℕ → OpenError → Bool
open_stands d c devices BadConfig = not (are_run_numbers c)
open_stands d c devices DeviceCount = not (devices == device_count d)
open_stands d c devices Memory = false

-- the first that stands
abbrev pub open_refusal : Domain → Config → ℕ → Option OpenError
open_refusal d c devices = first_standing (open_stands d c devices) open_order

-- the error of opening: the cause that was found, or out of memory if no cause was found
abbrev pub IsOpenError : Option OpenError → OpenError → Type 0
IsOpenError found BadConfig = found ≡ Some BadConfig
IsOpenError found DeviceCount = found ≡ Some DeviceCount
IsOpenError found Memory = found ≡ None

-- the place of an object's device: how many objects before it have devices
abbrev pub device_place : Domain → ℕ → ℕ
device_place d o = length (filter (associated_at d) (range_with_len 0 o))

-- the places of all
abbrev pub device_places : Domain → List ℕ
device_places d = map (device_place d) (range_with_len 0 (length d.objects))
