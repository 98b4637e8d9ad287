use Rattle.std.proofs.Common.{◌≡◌, ◌++◌, flat_map, take}
use Rattle.smi_log_front.specs.FrontText.{front_kill_line}
use Rattle.smi_log_front.proofs.kills.add_kills.Given as goal

-- the lines of those before were added
abbrev pub invariant-loop-kill : goal.invariant-loop-kill
invariant-loop-kill l = l.text.items ≡ l.initial.text.items ++ flat_map (front_kill_line l.domain) (take l.kill-index l.kills)
