use Rattle.std.proofs.Common.{◌≡◌, map, take}
use Rattle.sml_tree.proofs.lists.copy_list.Given as goal

abbrev pub invariant-loop-part : goal.invariant-loop-part
invariant-loop-part g l = map g.T.Part.other_said l.copies.items ≡ map g.T.Part.said (take l.part-index l.list.items)
