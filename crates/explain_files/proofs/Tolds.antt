-- The line of other faults.
use Rattle.std.proofs.Common.{◌≡◌, refl, ap, sym, ℕ, zero, suc, List, [], ◌++◌, ◌<◌, arith}
use Rattle.std.specs.Prelude.{codes}
use Rattle.sml_text.specs.Decimal.{decimal_text}
use Rattle.explain_files.specs.Others.{faults_word, others_text}

-- the parts are the line, where there are others
pub others_whole : (file : List ℕ) (n : ℕ) → 0 < n
    → file ++ codes ": and " ++ decimal_text n ++ faults_word n ≡ others_text file n
others_whole file zero is = absurd (omega (arith, is))
others_whole file (suc n) is = refl

-- there is no line where there are no others
pub others_none : (file : List ℕ) (n : ℕ) → n ≡ 0 → [] ≡ others_text file n
others_none file n is = ap (others_text file) (sym is)
