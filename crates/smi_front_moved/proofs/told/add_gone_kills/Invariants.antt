use Rattle.std.proofs.Common.{◌≡◌, ◌++◌, take}
use Rattle.std.specs.List.{filter_map}
use Rattle.smi_front_moved.specs.MovedLines.{gone_kill}
use Rattle.smi_front_moved.proofs.told.add_gone_kills.Given as goal

-- the lines of those before were added
abbrev pub invariant-loop-kill : goal.invariant-loop-kill
invariant-loop-kill l =
    l.lines.items ≡ l.initial.lines.items ++ filter_map (gone_kill l.moving) (take l.kill-index l.moving.front.kills)
