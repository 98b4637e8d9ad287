-- Why a text is no script, in words.
use Rattle.std.specs.Prelude.{ℕ, List, ◌++◌, codes}
use Rattle.sml_text.specs.Decimal.{decimal_text}
use Rattle.smi_run_plan.specs.declared.error.ScriptError.{ScriptError}
use Rattle.smi_run_plan.specs.declared.error.ScriptError.TheVariants as error

-- the words
abbrev pub script_error_text : ScriptError → List ℕ
script_error_text error.TooLong = codes "the script has more than 16777216 bytes"
script_error_text (error.BadLine n) = codes "bad line " ++ decimal_text n
script_error_text error.Memory = codes "out of memory"
