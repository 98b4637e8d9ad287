-- Nobody is listed at first.
use Rattle.std.proofs.Common.{None, Some, refl}
use Rattle.smi_board.proofs.Listed.{linked_first}
use Rattle.smi_board.proofs.holders.Holders.new.Goals as goal

pub invariant_of-result : goal.invariant_of-result
invariant_of-result c =
    linked_first _ _ _ c.args.places
    (c.in_ok-vec.ensures.items_if_clones_equal (elim [ None ↦ λ h. refl | Some z ↦ λ h. absurd h ]))
    (c.in_ok-vec-2.ensures.items_if_clones_equal (elim [ None ↦ λ h. refl | Some z ↦ λ h. absurd h ]))
    (c.in_ok-vec-3.ensures.items_if_clones_equal (elim [ None ↦ λ h. refl | Some z ↦ λ h. absurd h ]))
