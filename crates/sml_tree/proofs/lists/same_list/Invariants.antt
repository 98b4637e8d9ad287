use Rattle.sml_tree.proofs.Mapped.{Compared}
use Rattle.sml_tree.proofs.lists.same_list.Given as goal

abbrev pub invariant-loop-i : goal.invariant-loop-i
invariant-loop-i g l = Compared g.T.Part.said g.T.Part.other_said l.list.items l.other.items l.i
