use Rattle.std.proofs.Common.{◌≡◌, ◌++◌, flat_map, take}
use Rattle.smi_outset_text.specs.OutsetText.{member_word}
use Rattle.smi_outset_text.proofs.writing.add_objects.Given as goal

-- the words of those before were added
abbrev pub invariant-loop-o : goal.invariant-loop-o
invariant-loop-o l = l.text.items ≡ l.initial.text.items ++ flat_map (member_word l.domain) (take l.o-index l.objects)
