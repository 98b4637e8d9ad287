use Rattle.std.proofs.Common.{◌≡◌, ◌++◌, take}
use Rattle.smi_outset_text.specs.OutsetText.{numbered, outset_members_line}
use Rattle.smi_outset_text.proofs.writing.add_members.Given as goal

-- the lines of those before were added
abbrev pub invariant-loop-set : goal.invariant-loop-set
invariant-loop-set l = l.text.items ≡ l.initial.text.items ++ numbered (outset_members_line l.domain) 0 (take l.set l.members)
