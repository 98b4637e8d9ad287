-- What is read and written of a schedule.
use Rattle.std.specs.Prelude.{◌≡◌, ◌≤◌, ◌⊎◌, ℕ, List, [], Bool, false, Option, length}
use Rattle.std.specs.Io.KnownBytes.{Appends, Consumes, IsAtEnd}
use Rattle.smi_core.specs.Machines.{CoreView}
use Rattle.sml_text.specs.Lines.{Outputs, lines_of}
use Rattle.smi_core.specs.Feeds.{FirstLines, WholeLines}
use Rattle.smi_core.specs.Output.{LineWrites}
use Rattle.smi_core.specs.declared.schedule.TheConstants.{LONGEST_SCHEDULE}

-- of an input and an output, before and after, and of a core, which becomes another
module _ (input input2 output output2 : Option (List ℕ)) (core core2 : CoreView) where
  -- the schedule was read to its end, performed, and exactly its output was written
  abbrev pub PerformsAll : Type 0
  PerformsAll = (text : List ℕ) × Consumes input input2 text × IsAtEnd input2 × (length text ≤ LONGEST_SCHEDULE)
      × ((out : List ℕ) × Appends output output2 out × Outputs LineWrites core (lines_of text) out core2)

  -- the first lines of what was read were performed, and what they write was written, or the first part of it where
  -- the output failed; no more was read than a schedule may have, but where it is too long
  abbrev pub PerformsFirst : Type 0 → Type 0 → Type 0
  PerformsFirst output_failed too_long = (text : List ℕ) × Consumes input input2 text
      × FirstLines LineWrites core text (IsAtEnd input2) output_failed output output2 core2
      × ((length text ≤ LONGEST_SCHEDULE) ⊎ too_long)

-- something was written behind an output, and only if it was asked for
abbrev pub FollowsIf : Bool → Option (List ℕ) → Option (List ℕ) → Type 0
FollowsIf is_asked output output2 = (more : List ℕ) × Appends output output2 more × (is_asked ≡ false → more ≡ [])
