use Rattle.std.proofs.Common.{◌≡◌, ◌++◌, length}
use Rattle.smi_carried.specs.CarriedText.{carried_names_text}
use Rattle.smi_carried.specs.Onces.{OncesMayGo}
use Rattle.smi_carried.proofs.Named.{OncesGoOn}
use Rattle.smi_carried.proofs.onces.read_names.Given as goal

-- the bytes that are left
abbrev pub decreases-loop-next : goal.decreases-loop-next
decreases-loop-next l = length l.rest

-- the last requests of the lines before were read, and no others
abbrev pub invariant-loop-next : goal.invariant-loop-next
invariant-loop-next l = record {
  may : OncesMayGo l.domain l.names.items;
  whole : l.text ≡ carried_names_text l.domain l.names.items ++ l.rest;
  on : OncesGoOn l.domain l.text l.names.items l.rest;
}
