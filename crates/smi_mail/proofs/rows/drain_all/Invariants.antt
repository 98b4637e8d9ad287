use Rattle.std.proofs.Common.{◌≡◌, ◌+◌, ℕ, Some, length, vec_len, vec_capacity}
use Rattle.std.specs.Prelude.{slice_get}
use Rattle.std.specs.List.{All}
use Rattle.smi_mail.specs.Sides.{BoardSide}
use Rattle.smi_mail.specs.Drains.{IsRoom, IsDrainOf}
use Rattle.smi_mail.proofs.rows.drain_all.Given as goal

abbrev pub invariant-loop-end : goal.invariant-loop-end
invariant-loop-end g l =
    (vec_len l.rooms + length l.yielded ≡ length l.fn.board.items) × (vec_len l.drained ≡ length l.yielded) × (vec_capacity l.drained ≡ vec_capacity l.initial.drained)
    × ((n : ℕ) × All (λ (b : BoardSide). b.seen.capacity ≡ n) l.fn.board.items × All (IsRoom n) l.rooms.items)
    × ((o : ℕ) (b d : BoardSide) → slice_get l.fn.board.items o ≡ Some b → slice_get l.drained.items o ≡ Some d → IsDrainOf b d)
