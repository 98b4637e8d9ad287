-- What a manager does not keep: where its log fills, or where no start is left.
use Rattle.std.specs.Prelude.{◌≡◌, ◌<◌, ◌≤◌, ◌+◌, ◌-◌, ◌++◌, ◌∷◌, ◌⊎◌, [], length, ℕ, List, Option, Some, None, Result, Ok, Err, codes}
use Rattle.smi_journal_entries.specs.Words.{all_starts}
use Rattle.smi_world.specs.declared.step.Step.{Step}
use Rattle.smi_world.specs.declared.step.Step.TheVariants as step
use Rattle.smi_lines.specs.declared.line.LineError.{LineError}
use Rattle.smi_lines.specs.declared.line.LineError.TheVariants as fault
use Rattle.smi_core.specs.Machines.{CoreView}
use Rattle.smi_live_once.specs.Making.{limit_text}
use Rattle.smi_live.specs.declared.limiting.TheConstants.{BYTES_LEFT}

-- a line as it is kept
abbrev pub logged : List ℕ → List ℕ
logged line = line ++ 10 ∷ []

-- the line that is kept of one that is no step
abbrev pub line_for_bad : List ℕ
line_for_bad = codes "refused BadLine"

-- how many bytes a log may still take, if there is one, after a text was kept
abbrev pub room_after : Option ℕ → List ℕ → Option ℕ
room_after None kept = None
room_after (Some room) kept = Some (room - length kept)

-- after a line is kept, as many bytes are left as there are for other lines
abbrev pub HasRoomFor : Option ℕ → List ℕ → Type 0
HasRoomFor None line = Unit {0}
HasRoomFor (Some room) line = length (logged line) + BYTES_LEFT ≤ room

-- fewer would be left
abbrev pub LacksRoomFor : Option ℕ → List ℕ → Type 0
LacksRoomFor None line = ⊥
LacksRoomFor (Some room) line = room < length (logged line) + BYTES_LEFT

-- an action may still be started
abbrev pub HasStartsLeft : CoreView → Type 0
HasStartsLeft m = length (all_starts m.world.journal) < m.setup.max_starts

-- as many were started as may be
abbrev pub HasNoStartLeft : CoreView → Type 0
HasNoStartLeft m = m.setup.max_starts ≤ length (all_starts m.world.journal)

-- what was read so is kept as this line: an answer, a fault and a kill always, a request if there is room and a start
-- left, and all else if there is room
abbrev pub IsKept : Option ℕ → CoreView → Result (Option Step) LineError → List ℕ → Type 0
IsKept room m (Err fault.BadLine) line = HasRoomFor room line
IsKept room m (Err fault.Memory) line = ⊥
IsKept room m (Ok None) line = HasRoomFor room line
IsKept room m (Ok (Some (step.Start x))) line = HasRoomFor room line
IsKept room m (Ok (Some (step.Go x))) line = HasRoomFor room line
IsKept room m (Ok (Some (step.Request k x y args))) line = HasRoomFor room line × HasStartsLeft m
IsKept room m (Ok (Some (step.Answer x y))) line = Unit {0}
IsKept room m (Ok (Some (step.Fault x))) line = Unit {0}
IsKept room m (Ok (Some (step.Kill x k))) line = Unit {0}

-- it is not kept
abbrev pub IsUnkept : Option ℕ → CoreView → Result (Option Step) LineError → List ℕ → Type 0
IsUnkept room m (Err fault.BadLine) line = LacksRoomFor room line
IsUnkept room m (Err fault.Memory) line = ⊥
IsUnkept room m (Ok None) line = LacksRoomFor room line
IsUnkept room m (Ok (Some (step.Start x))) line = LacksRoomFor room line
IsUnkept room m (Ok (Some (step.Go x))) line = LacksRoomFor room line
IsUnkept room m (Ok (Some (step.Request k x y args))) line = LacksRoomFor room line ⊎ HasNoStartLeft m
IsUnkept room m (Ok (Some (step.Answer x y))) line = ⊥
IsUnkept room m (Ok (Some (step.Fault x))) line = ⊥
IsUnkept room m (Ok (Some (step.Kill x k))) line = ⊥

-- what is told of a line that was read so and is not kept: of a remark nothing
abbrev pub unkept_text : Result (Option Step) LineError → List ℕ
unkept_text (Ok None) = []
unkept_text (Ok (Some s)) = limit_text
unkept_text (Err e) = limit_text

-- what was read so is kept as this line; or it is not, and that is told
abbrev pub KeepsOrTells : Option ℕ → CoreView → Result (Option Step) LineError → List ℕ → List ℕ → List ℕ → Type 0
KeepsOrTells room m read line kept out =
    (IsKept room m read line × (kept ≡ logged line))
    ⊎ (IsUnkept room m read line × (kept ≡ []) × (out ≡ unkept_text read))
