use Rattle.std.proofs.Common.{◌≤◌, ◌+◌, vec_capacity, vec_len}
use Rattle.crossbeam_queue.specs.Passes.{view}
use Rattle.std.specs.Arc.{arc_value}
use Rattle.smi_mail.specs.Sides.{board_view, IsDraining}
use Rattle.smi_mail.proofs.ends.BoardEnd.drain.Given as goal

abbrev pub invariant-loop-envelope : goal.invariant-loop-envelope
invariant-loop-envelope g l = IsDraining (arc_value l.queue) l.pass (board_view (view l.self-inside.pass)) (board_view (view l.pass)).most l.left.items × (vec_len l.left + (board_view (view l.pass)).most ≤ vec_capacity l.left)

abbrev pub decreases-loop-envelope : goal.decreases-loop-envelope
decreases-loop-envelope g l = (board_view (view l.pass)).most
