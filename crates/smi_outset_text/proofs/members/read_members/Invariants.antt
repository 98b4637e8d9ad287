use Rattle.std.proofs.Common.{◌≡◌, ◌++◌, length, map}
use Rattle.std.specs.List.{range_with_len}
use Rattle.sml_outset.specs.Suits.{AllMembersSuit}
use Rattle.smi_outset_text.specs.OutsetText.{numbered, outset_members_line}
use Rattle.smi_outset_text.specs.Lines.{BeginsWithLines, MembersOf}
use Rattle.smi_outset_text.proofs.members.read_members.Given as goal

-- the members of the sets before were read
abbrev pub invariant-loop-set : goal.invariant-loop-set
invariant-loop-set l = record {
  count : length l.found.items ≡ l.set;
  suit : AllMembersSuit l.domain l.found.items;
  whole : l.text ≡ numbered (outset_members_line l.domain) 0 l.found.items ++ l.rest;
  lines : BeginsWithLines l.domain (map MembersOf (range_with_len 0 l.set)) l.text l.rest;
}
