use Rattle.std.proofs.Common.{◌≡◌, ◌<◌, take}
use Rattle.smirun_commands.specs.States.{ended_lines}
use Rattle.smirun_commands.proofs.states.first_lines.Given as goal

-- fewer lines than are asked for end before the place
abbrev pub invariant-loop-place : goal.invariant-loop-place
invariant-loop-place l = record {
  is : l.ended ≡ ended_lines (take l.place l.text);
  few : l.ended < l.count;
}
