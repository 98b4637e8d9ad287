use Rattle.std.proofs.Common.{◌≡◌, ◌++◌, All, flat_map, length, map, take}
use Rattle.std.specs.List.{range_with_len}
use Rattle.sml_outset.specs.Suits.{StandsSuit}
use Rattle.smi_outset_text.specs.OutsetText.{numbered, stand_param_lines}
use Rattle.smi_outset_text.specs.Lines.{BeginsWithLines, param_lines_of}
use Rattle.smi_outset_text.specs.Reading.{IsHeldStand, state_of_stand}
use Rattle.smi_outset_text.proofs.params.read_stands.Given as goal

-- the parameters of the objects before were read
abbrev pub invariant-loop-o : goal.invariant-loop-o
invariant-loop-o l = record {
  size : length l.found.items ≡ l.o;
  states : map state_of_stand l.found.items ≡ take l.o l.states;
  suit : StandsSuit l.domain l.found.items;
  held : All IsHeldStand l.found.items;
  whole : l.text ≡ numbered (stand_param_lines l.domain) 0 l.found.items ++ l.rest;
  count : l.lines ≡ length (flat_map (param_lines_of l.domain) (range_with_len 0 l.o));
  lines : BeginsWithLines l.domain (flat_map (param_lines_of l.domain) (range_with_len 0 l.o)) l.text l.rest;
}
