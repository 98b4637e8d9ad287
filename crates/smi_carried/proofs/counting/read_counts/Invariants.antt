use Rattle.std.proofs.Common.{◌≡◌, ◌++◌, All, length}
use Rattle.smi_carried.specs.Counts.{CountsAreHeld}
use Rattle.smi_carried.proofs.Counts.{counts_from}
use Rattle.smi_carried.proofs.Counted.{CountsGoOn}
use Rattle.smi_carried.proofs.counting.read_counts.Given as goal

-- the counts of the objects before were read, and no others
abbrev pub invariant-loop-o : goal.invariant-loop-o
invariant-loop-o l = record {
  count : length l.counts.items ≡ l.o;
  held : All CountsAreHeld l.counts.items;
  whole : l.text ≡ counts_from l.domain 0 l.counts.items ++ l.rest;
  on : CountsGoOn l.domain l.text l.counts.items l.o l.rest;
}
