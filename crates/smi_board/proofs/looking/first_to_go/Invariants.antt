-- Those that were looked at are placed, and the others are candidates still.
use Rattle.std.proofs.Common.{◌≡◌, length}
use Rattle.smi_board.specs.Looks.{ArePlaced}
use Rattle.smi_board.proofs.looking.first_to_go.Given as goal

abbrev pub invariant-loop-o : goal.invariant-loop-o
invariant-loop-o l = record {
  places : l.candidates.places ≡ length l.ledger.domain.objects;
  listed : length l.holders ≡ length l.ledger.domain.objects;
  placed : ArePlaced l.ledger.domain l.ledger.journal l.kept l.candidates.list l.holders;
}

abbrev pub decreases-loop-o : goal.decreases-loop-o
decreases-loop-o l = length l.candidates.list
