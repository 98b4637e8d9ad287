use Rattle.std.proofs.Common.{map}
use Rattle.sml_tree.specs.Content.{state_content}
use Rattle.sml_check_faults.specs.Heads as heads
use Rattle.sml_check_faults.proofs.Rests.{Rest}
use Rattle.sml_check_faults.proofs.Twice.{two_more}
use Rattle.sml_check_faults.proofs.heads.two_marked.Given as goal

abbrev pub invariant-loop-state : goal.invariant-loop-state
invariant-loop-state g l = Rest (λ ys. two_more l.seen (heads.has_mark l.dead) (map state_content ys)) l.states l.state-index (heads.has_two (heads.has_mark l.dead) (map state_content l.states))
