-- What holds of every schedule.
use Rattle.std.specs.Prelude.{◌≡◌, ℕ, true, List, [], ◌∷◌, ◌++◌}
use Rattle.std.specs.List.{list_all}
use Rattle.sml_text.specs.Bytes.{no_line_feed}
use Rattle.smi_core.specs.Machines.{CoreView}
use Rattle.sml_text.specs.Lines.{Outputs, lines_of}
use Rattle.smi_core.specs.Output.{LineWrites}

-- lines with line feeds between them
abbrev pub joined : List (List ℕ) → List ℕ
joined [] = []
joined (line ∷ []) = line
joined (line ∷ next ∷ lines) = line ++ (10 ∷ joined (next ∷ lines))

-- no line has a line feed
abbrev pub AreLines : List (List ℕ) → Type 0
AreLines [] = Unit {0}
AreLines (line ∷ lines) = (list_all no_line_feed line ≡ true) × AreLines lines

-- what a text writes from a core, and the core after it
abbrev pub OutputOf : CoreView → List ℕ → List ℕ → CoreView → Type 0
OutputOf m text out m2 = Outputs LineWrites m (lines_of text) out m2

-- the lines of a text, joined, are the text
abbrev pub LinesJoin : Type 0
LinesJoin = (text : List ℕ) → (joined (lines_of text) ≡ text) × AreLines (lines_of text)

-- a text has one output from a core, and leads to one core
abbrev pub OneOutput : Type 0
OneOutput = (m : CoreView) (text out other : List ℕ) (m2 m3 : CoreView) → OutputOf m text out m2 →
    OutputOf m text other m3 → (out ≡ other) × (m2 ≡ m3)
