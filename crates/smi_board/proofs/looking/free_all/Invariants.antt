-- Those that were taken so far are freed, and the others are as they were.
use Rattle.std.proofs.Common.{◌≡◌, ℕ, length}
use Rattle.smi_board.specs.Holders.{holder_of}
use Rattle.smi_board.specs.Rings.{is_in_ring}
use Rattle.smi_board.proofs.Freeing.{IsFreeing, listed_count}
use Rattle.smi_board.proofs.looking.free_all.Given as goal

abbrev pub invariant-loop-o : goal.invariant-loop-o
invariant-loop-o l = record {
  places : l.candidates.places ≡ l.fn.candidates.places;
  listed : length l.holders ≡ length l.fn.holders;
  each : (o : ℕ) → IsFreeing l.x (holder_of l.fn.holders o) (holder_of l.holders o) (is_in_ring o l.fn.candidates.list) (is_in_ring o l.candidates.list);
}

abbrev pub decreases-loop-o : goal.decreases-loop-o
decreases-loop-o l = listed_count l.holders
