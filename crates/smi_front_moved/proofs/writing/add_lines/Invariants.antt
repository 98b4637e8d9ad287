use Rattle.std.proofs.Common.{◌≡◌, ◌++◌, flat_map, take}
use Rattle.smi_front_moved.specs.MovedText.{moved_line_text}
use Rattle.smi_front_moved.proofs.writing.add_lines.Given as goal

-- the lines of those before were added
abbrev pub invariant-loop-line : goal.invariant-loop-line
invariant-loop-line l =
    l.text.items ≡ l.initial.text.items ++ flat_map (moved_line_text l.moving) (take l.line-index l.lines)
