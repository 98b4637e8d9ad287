-- Why a command takes no file.
use Rattle.std.specs.Prelude.{◌≡◌, ◌≢◌, ℕ, List, Some, None}
use Rattle.sml_tree.specs.Syntax.{ItemData}
use Rattle.sml_read.specs.Promise.{IsFileOf, Cause}
use Rattle.sml_read.specs.declared.error.ReadErrorKind.TheVariants as kind
use Rattle.sml_check_faults.specs.Lookup.{first_item}
use Rattle.sml_check_faults.specs.Kinds.{all_faults}
use Rattle.sml_domain.specs.Domain.{Domain}
use Rattle.sml_load.specs.Texts.{IsDomainOfText}
use Rattle.smi_core.specs.Machines.{AreLimits}
use Rattle.smirun_commands.specs.declared.fault.Fault.{Fault}
use Rattle.smirun_commands.specs.declared.fault.Fault.TheVariants as fault

-- why the text of a path is no file of the language; out of memory says nothing about it
abbrev pub IsTextFault : List ℕ → List ℕ → Fault → Type 0
IsTextFault path text (fault.Read file e) = (file.now ≡ path) × (e.kind ≢ kind.Memory) × Cause text e.kind e.offset
IsTextFault path text fault.Memory = Unit {0}
IsTextFault path text (fault.Check _ _) = ⊥
IsTextFault path text fault.WrongNumbers = ⊥
IsTextFault path text fault.WrongRunNumbers = ⊥
IsTextFault path text (fault.Unreadable _ _) = ⊥
IsTextFault path text (fault.TooLong _) = ⊥
IsTextFault path text (fault.BadHeader _) = ⊥
IsTextFault path text (fault.BadLine _ _) = ⊥
IsTextFault path text (fault.Overwrites _) = ⊥
IsTextFault path text fault.Output = ⊥
IsTextFault path text (fault.JournalUnwritten _ _) = ⊥
IsTextFault path text (fault.Log _ _) = ⊥
IsTextFault path text (fault.NoLine _ _) = ⊥
IsTextFault path text fault.ReportDiffers = ⊥

-- why the text of a path has no domain: it is no file, or this is the first fault of its file
abbrev pub IsDomainFault : List ℕ → List ℕ → Fault → Type 0
IsDomainFault path text (fault.Check file e) =
    (file.now ≡ path) × ((said : List ItemData) × IsFileOf text said
    × (Some (e.kind, e.name) ≡ first_item (all_faults said)))
IsDomainFault path text (fault.Read file e) = IsTextFault path text (fault.Read file e)
IsDomainFault path text fault.Memory = Unit {0}
IsDomainFault path text fault.WrongNumbers = ⊥
IsDomainFault path text fault.WrongRunNumbers = ⊥
IsDomainFault path text (fault.Unreadable _ _) = ⊥
IsDomainFault path text (fault.TooLong _) = ⊥
IsDomainFault path text (fault.BadHeader _) = ⊥
IsDomainFault path text (fault.BadLine _ _) = ⊥
IsDomainFault path text (fault.Overwrites _) = ⊥
IsDomainFault path text fault.Output = ⊥
IsDomainFault path text (fault.JournalUnwritten _ _) = ⊥
IsDomainFault path text (fault.Log _ _) = ⊥
IsDomainFault path text (fault.NoLine _ _) = ⊥
IsDomainFault path text fault.ReportDiffers = ⊥
