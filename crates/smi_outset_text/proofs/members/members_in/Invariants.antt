use Rattle.std.proofs.Common.{◌≡◌, ◌++◌, All, Contains, flat_map, length}
use Rattle.sml_domain.specs.Lookups.{may_at}
use Rattle.smi_outset_text.specs.OutsetText.{member_word}
use Rattle.smi_outset_text.specs.Reading.{WordsGoOn}
use Rattle.smi_outset_text.proofs.members.members_in.Given as goal

-- the bytes that are left
abbrev pub decreases-loop-may : goal.decreases-loop-may
decreases-loop-may l = length l.rest

-- the names of the members so far were read, and no others
abbrev pub invariant-loop-may : goal.invariant-loop-may
invariant-loop-may l = record {
  may : All (Contains (may_at l.domain l.fn.set)) l.members.items;
  whole : l.text ≡ flat_map (member_word l.domain) l.members.items ++ l.rest;
  on : WordsGoOn l.domain l.fn.set l.text l.members.items l.rest;
}
