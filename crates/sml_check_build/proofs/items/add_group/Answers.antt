use Rattle.std.proofs.Common.{ap, subst, sym, All}
use Rattle.sml_tree.specs.Content.{item_content}
use Rattle.sml_check_build.specs.Placed.{NameHasNumber, ItemPlaced}
use Rattle.sml_check_build.proofs.items.add_group.Goals as goal

pub numbers-requires : goal.numbers-requires
numbers-requires g c = subst (All (NameHasNumber c.args.names.now.objects)) (sym c.deref.ensures.value)
    (subst (ItemPlaced c.args.names.now) (ap item_content c.in-Group.is) c.requires.item)

pub numbers-requires-in-Group : goal.numbers-requires-in-Group
numbers-requires-in-Group g c = subst (All (NameHasNumber c.args.names.now.objects)) (sym c.objects_meant.ensures)
    (c.requires.may c.in-Group.group.name)
