-- The paths of files that are read.
use Rattle.std.specs.Prelude.{◌≡◌, ◌≢◌, ℕ, List, codes}

-- a word of the command line, which is not that of standard input, is this path
abbrev pub IsReadAs : List ℕ → List ℕ → Type 0
IsReadAs word path = (word ≡ path) × (word ≢ codes "-")
