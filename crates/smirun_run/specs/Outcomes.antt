-- What is reported behind the summary of a run.
use Rattle.std.specs.Prelude.{◌≡◌, ◌≢◌, List, []}
use Rattle.smi_run_report.specs.declared.told.Receipt.{Receipt}
use Rattle.smi_run_shared.specs.declared.ending.ServeEnd.{ServeEnd}
use Rattle.smi_run_shared.specs.declared.ending.ServeEnd.TheVariants as end
use Rattle.smirun_commands.specs.declared.fault.Fault.{Fault}
use Rattle.smirun_commands.specs.declared.fault.Fault.TheVariants as fault

-- a run that ended so, with these receipts unmet, may be reported as this fault: that the report differs is reported
-- only if one is unmet and the end is not Memory
abbrev pub IsFaultOf : ServeEnd → List Receipt → Fault → Type 0
IsFaultOf e unmet fault.ReportDiffers = (e ≢ end.Memory) × (unmet ≢ [])
IsFaultOf e unmet fault.Memory = Unit {0}
IsFaultOf e unmet fault.Output = Unit {0}
IsFaultOf e unmet (fault.JournalUnwritten _ _) = Unit {0}
IsFaultOf e unmet (fault.Read _ _) = ⊥
IsFaultOf e unmet (fault.Check _ _) = ⊥
IsFaultOf e unmet fault.WrongNumbers = ⊥
IsFaultOf e unmet fault.WrongRunNumbers = ⊥
IsFaultOf e unmet (fault.Unreadable _ _) = ⊥
IsFaultOf e unmet (fault.TooLong _) = ⊥
IsFaultOf e unmet (fault.BadHeader _) = ⊥
IsFaultOf e unmet (fault.BadLine _ _) = ⊥
IsFaultOf e unmet (fault.Overwrites _) = ⊥
IsFaultOf e unmet (fault.Log _ _) = ⊥
IsFaultOf e unmet (fault.NoLine _ _) = ⊥
