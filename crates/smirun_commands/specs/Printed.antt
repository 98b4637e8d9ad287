-- What is printed of a text, and what comes of comparing both.
use Rattle.std.specs.Prelude.{◌≡◌, ◌↔◌, ℕ, List}
use Rattle.sml_tree.specs.Syntax.{ItemData}
use Rattle.sml_read.specs.Promise.{IsFileOf}
use Rattle.sml_print.specs.Items.{file_text}

-- the canonical text of the file that a text says
abbrev pub IsPrintOf : List ℕ → List ℕ → Type 0
IsPrintOf text printed = (said : List ItemData) × IsFileOf text said × (printed ≡ file_text said)

-- the exit status of a comparison: 0 exactly if the text is the canonical text of the file that it says
abbrev pub IsCompared : List ℕ → ℕ → Type 0
IsCompared text status = (printed : List ℕ) × IsPrintOf text printed × (status ≡ 0 ↔ text ≡ printed)
