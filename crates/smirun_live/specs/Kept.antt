-- What stands of a log.
use Rattle.std.specs.Prelude.{ℕ, Bool, true, false, List, Option}

-- what no end of the program loses of a log, or if it is put on the disk, no crash of the machine either
abbrev pub stands_in : Bool → Option (List ℕ) → Option (List ℕ) → Option (List ℕ)
stands_in true on_disk contents = on_disk
stands_in false on_disk contents = contents
