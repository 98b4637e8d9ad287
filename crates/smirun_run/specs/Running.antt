-- When a plan is run, and why it is not.
use Rattle.std.specs.Prelude.{◌≡◌, ℕ, true, List, length}
use Rattle.sml_domain.specs.Domain.{Domain}
use Rattle.smi_mail.specs.Mails.{AreMailNumbers}
use Rattle.smi_mail.specs.declared.mailboxes.MailError.{MailError}
use Rattle.smi_mail.specs.declared.mailboxes.MailError.TheVariants as mailing
use Rattle.smi_run_report.specs.Reports.{device_count}
use Rattle.smi_run_runtime.specs.Opening.{are_run_numbers}
use Rattle.smi_run_runtime.specs.declared.errors.OpenError.{OpenError}
use Rattle.smi_run_runtime.specs.declared.errors.OpenError.TheVariants as opening
use Rattle.smi_run_runtime.specs.declared.opening.Config.{Config}
use Rattle.smi_run_plan.specs.Devices.{devices_from}
use Rattle.smi_run_plan.specs.declared.plan.Plan.{Plan}
use Rattle.smirun_run.specs.declared.running.RunError.{RunError}
use Rattle.smirun_run.specs.declared.running.RunError.TheVariants.{BadConfig, DeviceCount, Memory}
use Rattle.smirun_run.specs.declared.running.RunNumbers.{RunNumbers}

-- the numbers by which the runtime of a run is opened
abbrev pub config_of : RunNumbers → Config
config_of n = record { workers = n.workers; max_starts = n.max_starts }

-- the numbers of a run, and its count of sessions, are within their limits: a capacity of 1 to MAX_CAPACITY, 1 to
-- MAX_SESSIONS sessions, 1 to MAX_WORKERS workers and 1 to MAX_STARTS starts
abbrev pub AreWithin : RunNumbers → ℕ → Type 0
AreWithin n sessions = AreMailNumbers n.capacity sessions × (are_run_numbers (config_of n) ≡ true)

-- of a plan there are as many devices as a domain has associated objects
abbrev pub HasDevices : Domain → Plan → Type 0
HasDevices d p = length (devices_from d 0 p.answers.devices.items) ≡ device_count d

-- why the plan of a domain was not run by these numbers; out of memory says nothing of them
abbrev pub IsRunError : Domain → RunNumbers → Plan → RunError → Type 0
IsRunError d n p BadConfig = ¬ AreWithin n (length p.scripts.items)
IsRunError d n p DeviceCount = ¬ HasDevices d p
IsRunError d n p Memory = Unit {0}

-- why a runtime with a count of devices was not opened by these numbers; out of memory says nothing of them
abbrev pub IsOpenFault : Domain → RunNumbers → ℕ → RunError → Type 0
IsOpenFault d n devices BadConfig = ¬ (are_run_numbers (config_of n) ≡ true)
IsOpenFault d n devices DeviceCount = ¬ (devices ≡ device_count d)
IsOpenFault d n devices Memory = Unit {0}

-- the error of a run whose mailboxes were not made
abbrev pub error_of_mail : MailError → RunError
error_of_mail mailing.BadConfig = BadConfig
error_of_mail mailing.Memory = Memory

-- the error of a run whose runtime was not opened
abbrev pub error_of_open : OpenError → RunError
error_of_open opening.BadConfig = BadConfig
error_of_open opening.DeviceCount = DeviceCount
error_of_open opening.Memory = Memory
