-- The exit status of a judgement, and why a journal is not judged.
use Rattle.std.specs.Prelude.{◌≡◌, ℕ, List}
use Rattle.sml_domain.specs.Domain.{Domain}
use Rattle.smi_journal.specs.ReadJournal.{FirstBad, NoHeader}
use Rattle.smi_audit.specs.declared.judgement.Judgement.{Judgement}
use Rattle.smi_audit.specs.declared.judgement.Judgement.TheVariants.{Legal, Illegal}
use Rattle.smirun_commands.specs.declared.fault.Fault.{Fault}
use Rattle.smirun_commands.specs.declared.fault.Fault.TheVariants as fault

-- the exit status
abbrev pub ruling_status : Judgement → ℕ
ruling_status Legal = 0
ruling_status (Illegal line rule) = 4

-- why the journal of a path, with these bytes, is not judged; out of memory says nothing about them
abbrev pub IsNotJudged : Domain → List ℕ → List ℕ → Fault → Type 0
IsNotJudged d path bytes (fault.BadHeader file) = (file.now ≡ path) × NoHeader bytes
IsNotJudged d path bytes (fault.BadLine file n) = (file.now ≡ path) × FirstBad d bytes n
IsNotJudged d path bytes fault.Memory = Unit {0}
IsNotJudged d path bytes (fault.Read _ _) = ⊥
IsNotJudged d path bytes (fault.Check _ _) = ⊥
IsNotJudged d path bytes fault.WrongNumbers = ⊥
IsNotJudged d path bytes fault.WrongRunNumbers = ⊥
IsNotJudged d path bytes (fault.Unreadable _ _) = ⊥
IsNotJudged d path bytes (fault.TooLong _) = ⊥
IsNotJudged d path bytes (fault.Overwrites _) = ⊥
IsNotJudged d path bytes fault.Output = ⊥
IsNotJudged d path bytes (fault.JournalUnwritten _ _) = ⊥
IsNotJudged d path bytes fault.ReportDiffers = ⊥
IsNotJudged d path bytes (fault.Log _ _) = ⊥
IsNotJudged d path bytes (fault.NoLine _ _) = ⊥
