-- Why a schedule was not run to its end, in words.
use Rattle.std.specs.Prelude.{ℕ, List, codes}
use Rattle.smi_core.specs.declared.schedule.ScheduleFault.{ScheduleFault}
use Rattle.smi_core.specs.declared.schedule.ScheduleFault.TheVariants as fault

-- the words
abbrev pub schedule_fault_text : ScheduleFault → List ℕ
schedule_fault_text fault.Read = codes "the schedule can't be read"
schedule_fault_text fault.Write = codes "the output can't be written"
schedule_fault_text fault.TooLong = codes "the schedule has more than 16777216 bytes"
schedule_fault_text fault.Memory = codes "out of memory"
