-- What is said about the faults that are not told one by one.
use Rattle.std.specs.Prelude.{◌==◌, ℕ, zero, suc, List, [], ◌++◌, codes, if◌then◌else◌}
use Rattle.sml_text.specs.Decimal.{decimal_text}

-- the end of the line: one fault, or several
abbrev pub faults_word : ℕ → List ℕ
faults_word n = if n == 1 then codes " more fault\n" else codes " more faults\n"

-- the line that tells how many others there are, if there are any
abbrev pub others_text : List ℕ → ℕ → List ℕ
others_text file zero = []
others_text file (suc n) = file ++ codes ": and " ++ decimal_text (suc n) ++ faults_word (suc n)
