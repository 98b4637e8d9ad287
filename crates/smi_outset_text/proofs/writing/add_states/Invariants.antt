use Rattle.std.proofs.Common.{◌≡◌, ◌++◌, take}
use Rattle.smi_outset_text.specs.OutsetText.{numbered, stand_state_line}
use Rattle.smi_outset_text.proofs.writing.add_states.Given as goal

-- the lines of those before were added
abbrev pub invariant-loop-o : goal.invariant-loop-o
invariant-loop-o l = l.text.items ≡ l.initial.text.items ++ numbered (stand_state_line l.domain) 0 (take l.o l.stands)
