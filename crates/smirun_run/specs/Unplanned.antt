-- Why a script has no plan.
use Rattle.std.specs.Prelude.{◌≡◌, ◌<◌, ℕ, List, length}
use Rattle.sml_domain.specs.Domain.{Domain}
use Rattle.smi_run_plan.specs.Plans.{IsFirstBad}
use Rattle.smi_run_plan.specs.declared.plan.TheConstants.{LONGEST_SCRIPT}
use Rattle.smirun_commands.specs.declared.fault.Fault.{Fault}
use Rattle.smirun_commands.specs.declared.fault.Fault.TheVariants as fault

-- why the script of a path, with these bytes, has no plan; out of memory says nothing of them
abbrev pub IsUnplanned : Domain → List ℕ → List ℕ → Fault → Type 0
IsUnplanned d path text (fault.TooLong file) = (file.now ≡ path) × (LONGEST_SCRIPT < length text)
IsUnplanned d path text (fault.BadLine file n) = (file.now ≡ path) × IsFirstBad d text n
IsUnplanned d path text fault.Memory = Unit {0}
IsUnplanned d path text (fault.Read _ _) = ⊥
IsUnplanned d path text (fault.Check _ _) = ⊥
IsUnplanned d path text fault.WrongNumbers = ⊥
IsUnplanned d path text fault.WrongRunNumbers = ⊥
IsUnplanned d path text (fault.Unreadable _ _) = ⊥
IsUnplanned d path text (fault.BadHeader _) = ⊥
IsUnplanned d path text (fault.Overwrites _) = ⊥
IsUnplanned d path text fault.Output = ⊥
IsUnplanned d path text (fault.JournalUnwritten _ _) = ⊥
IsUnplanned d path text fault.ReportDiffers = ⊥
IsUnplanned d path text (fault.Log _ _) = ⊥
IsUnplanned d path text (fault.NoLine _ _) = ⊥
