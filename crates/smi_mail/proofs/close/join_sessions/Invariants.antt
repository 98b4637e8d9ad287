use Rattle.std.proofs.Common.{◌≡◌, ℕ, Some, length}
use Rattle.std.specs.Prelude.{slice_get}
use Rattle.smi_mail.specs.Sides.{BoardSide}
use Rattle.smi_mail.specs.Drains.{with_known}
use Rattle.smi_mail.proofs.close.join_sessions.Given as goal

abbrev pub invariant-loop-end : goal.invariant-loop-end
invariant-loop-end g l = (length l.board.items ≡ length l.initial.board.items) × ((o : ℕ) (b : BoardSide) → slice_get l.initial.board.items o ≡ Some b → slice_get l.board.items o ≡ Some (with_known l.yielded o b))
