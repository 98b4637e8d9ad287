use Rattle.std.proofs.Common.{◌<◌, ℕ, List, get_or}
use Rattle.sml_outset.specs.Suits.{MembersSuit}
use Rattle.sml_outset.proofs.suiting.all_members_suit.Given as goal

abbrev pub invariant-loop-set : goal.invariant-loop-set
invariant-loop-set l = (k : ℕ) (m : List ℕ) → k < l.set → MembersSuit l.domain k (get_or l.members k m)
