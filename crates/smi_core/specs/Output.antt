-- What a schedule writes.
use Rattle.std.specs.Prelude.{◌≡◌, ℕ, List, [], length, drop, Option, Some, None, Result, Ok, Err, codes}
use Rattle.smi_journal_entries.specs.declared.entry.Entry.{Entry}
use Rattle.smi_world.specs.declared.step.Step.{Step}
use Rattle.smi_world.specs.declared.step.Answer.{Answer}
use Rattle.smi_world.specs.declared.refusal.StepError.{StepError}
use Rattle.smi_world.specs.declared.refusal.StepError.TheVariants as error
use Rattle.smi_world.specs.World.{World}
use Rattle.smi_world.specs.Steps.{StepsTo}
use Rattle.smi_lines.specs.declared.line.LineError.{LineError}
use Rattle.smi_lines.specs.declared.line.LineError.TheVariants as line
use Rattle.smi_lines.specs.Line.{LineReads}
use Rattle.smi_lines.specs.Answers.{refused_text, answer_text}
use Rattle.smi_core.specs.Machines.{CoreView}

-- the entries behind those of the world before
abbrev pub added_in : World → World → List Entry
added_in w w2 = drop (length w.journal) w2.journal

-- what a line writes that was read so, and the core after it. A line that is out of memory writes nothing
abbrev pub Writes : CoreView → Result (Option Step) LineError → List ℕ → CoreView → Type 0
Writes m (Err line.BadLine) out m2 = (out ≡ refused_text (codes "BadLine")) × (m2 ≡ m)
Writes m (Err line.Memory) out m2 = ⊥
Writes m (Ok None) out m2 = (out ≡ []) × (m2 ≡ m)
Writes m (Ok (Some s)) out m2 =
    (r : Result Answer StepError) × (r ≡ Err error.Memory → ⊥) × StepsTo m.setup m.world s r m2.world
    × (m2.setup ≡ m.setup)
    × (out ≡ answer_text m.setup.domain s r (added_in m.world m2.world))

-- the core takes a line, writes this, and becomes another
abbrev pub LineWrites : CoreView → List ℕ → List ℕ → CoreView → Type 0
LineWrites m line out m2 = (r : Result (Option Step) LineError) × LineReads line r × Writes m r out m2
