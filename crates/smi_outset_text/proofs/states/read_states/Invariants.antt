use Rattle.std.proofs.Common.{◌≡◌, ◌++◌, ◌<◌, ℕ, get_or, length, map}
use Rattle.std.specs.List.{range_with_len}
use Rattle.smi_outset_text.specs.OutsetText.{numbered, outset_state_line}
use Rattle.smi_outset_text.specs.Lines.{BeginsWithLines, StateOf}
use Rattle.smi_outset_text.specs.Reading.{IsOwnState}
use Rattle.smi_outset_text.proofs.states.read_states.Given as goal

-- the states of the objects before were read
abbrev pub invariant-loop-o : goal.invariant-loop-o
invariant-loop-o l = record {
  count : length l.found.items ≡ l.o;
  each : (k s : ℕ) → k < length l.found.items → IsOwnState l.domain k (get_or l.found.items k s);
  whole : l.text ≡ numbered (outset_state_line l.domain) 0 l.found.items ++ l.rest;
  lines : BeginsWithLines l.domain (map StateOf (range_with_len 0 l.o)) l.text l.rest;
}
