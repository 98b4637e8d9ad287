-- Of none before the turn's a task can continue.
use Rattle.std.proofs.Common.{◌≡◌, ◌<◌, ℕ, false, length}
use Rattle.smi_board.specs.Boards.{kept_at}
use Rattle.smi_board.specs.Turns.{can_go_on}
use Rattle.smi_board.proofs.Looks.{at_place}
use Rattle.smi_board.proofs.board.Board.any_goes.Given as goal

abbrev pub invariant-loop-place : goal.invariant-loop-place
invariant-loop-place g l = record {
  count : l.count ≡ length l.candidates.list;
  places : l.candidates.places ≡ length l.self.domain.objects;
  looked : (p : ℕ) → p < l.place
      → can_go_on l.self.domain (at_place l.candidates.list p) l.self.journal (kept_at l.self.kept (at_place l.candidates.list p)) ≡ false;
}
