-- The exit statuses and the lines of faults.
use Rattle.std.specs.Prelude.{ℕ, List, ◌++◌, Option, Some, codes}
use Rattle.std.specs.Fmt.{decimal}
use Rattle.sml_read.specs.Refusal.{read_kind_number, read_kind_name}
use Rattle.sml_check_faults.specs.KindText as check
use Rattle.smirun_commands.specs.declared.fault.Fault.{Fault}
use Rattle.smirun_commands.specs.declared.fault.Fault.TheVariants.{Read, Check, WrongNumbers, WrongRunNumbers, Unreadable}
use Rattle.smirun_commands.specs.declared.fault.Fault.TheVariants.{TooLong, BadHeader, BadLine, Overwrites, Output}
use Rattle.smirun_commands.specs.declared.fault.Fault.TheVariants.{JournalUnwritten, ReportDiffers, Memory}
use Rattle.smirun_commands.specs.declared.fault.Fault.TheVariants.{Log, NoLine}
use Rattle.smirun_commands.specs.declared.log_refusal.LogRefusal.{LogRefusal}
use Rattle.smirun_commands.specs.declared.log_refusal.LogRefusal.TheVariants as log

-- the exit status of a fault
abbrev pub fault_status : Fault → ℕ
fault_status (Read _ _) = 1
fault_status (Check _ _) = 1
fault_status WrongNumbers = 2
fault_status WrongRunNumbers = 2
fault_status (Unreadable _ _) = 1
fault_status (TooLong _) = 1
fault_status (BadHeader _) = 1
fault_status (BadLine _ _) = 1
fault_status (NoLine _ _) = 1
fault_status (Overwrites _) = 2
fault_status Output = 1
fault_status (JournalUnwritten _ _) = 1
fault_status (Log _ _) = 1
fault_status ReportDiffers = 1
fault_status Memory = 3

-- what is said of a log that is refused
abbrev pub said_of : LogRefusal → List ℕ
said_of log.NotEmpty = codes "is not empty"
said_of log.OfAnother = codes "is of another domain"
said_of (log.Capacity n) = codes "has capacity " ++ decimal n
said_of (log.Starts n) = codes "has " ++ decimal n ++ codes " starts"
said_of (log.BadOutset n) = codes "bad outset " ++ decimal n
said_of log.Restless = codes "does not rest"
said_of (log.Torn n) = codes "bad line " ++ decimal n
said_of log.IsLink = codes "is a link"
said_of log.NoFile = codes "is no file"
said_of log.InUse = codes "is in use"
said_of log.Full = codes "full"
said_of log.Moved = codes "was moved"
said_of log.Changed = codes "was written by another"

-- which is always known
abbrev pub refusal_text : LogRefusal → Option (List ℕ)
refusal_text r = Some (said_of r)

-- the line of a fault
abbrev pub fault_line : Fault → Option (List ℕ)
fault_line (Read file e) =
    Some (file.now ++ codes " read " ++ decimal (read_kind_number e.kind) ++ codes " " ++ read_kind_name e.kind
    ++ codes " at " ++ decimal e.offset)
fault_line (Check file e) = Some (file.now ++ codes " check " ++ decimal (check.check_kind_number e.kind) ++ codes " "
    ++ check.check_kind_name e.kind ++ codes " " ++ e.name)
fault_line WrongNumbers = Some (codes "capacity is 1 to 1024, max-starts 1 to 1000000")
fault_line WrongRunNumbers = Some (codes "workers is 1 to 8, capacity 1 to 1024, max-starts 1 to 1000000")
fault_line (Unreadable file _) = Some (file.now ++ codes " unreadable")
fault_line (TooLong file) = Some (file.now ++ codes " too long")
fault_line (BadHeader file) = Some (file.now ++ codes " bad header")
fault_line (BadLine file n) = Some (file.now ++ codes " bad line " ++ decimal n)
fault_line (NoLine file n) = Some (file.now ++ codes " has no line " ++ decimal n)
fault_line (Overwrites file) = Some (file.now ++ codes " is read, so that no journal is written to it")
fault_line Output = Some (codes "output fault")
fault_line (JournalUnwritten _ _) = Some (codes "output fault")
fault_line (Log file r) = Some (file.now ++ codes " " ++ said_of r)
fault_line ReportDiffers = Some (codes "report differs")
fault_line Memory = Some (codes "memory")
