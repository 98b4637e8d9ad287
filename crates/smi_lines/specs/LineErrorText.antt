-- Why a line is refused, in words.
use Rattle.std.specs.Prelude.{ℕ, List, codes}
use Rattle.smi_lines.specs.declared.line.LineError.{LineError}
use Rattle.smi_lines.specs.declared.line.LineError.TheVariants as error

-- the words
abbrev pub line_error_text : LineError → List ℕ
line_error_text error.BadLine = codes "the line is no step"
line_error_text error.Memory = codes "out of memory"
