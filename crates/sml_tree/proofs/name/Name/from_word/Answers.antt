use Rattle.std.proofs.Common.{◌∙◌, ap}
use Rattle.sml_tree.specs.Word.{upper}
use Rattle.sml_tree.proofs.Upper.{named}
use Rattle.sml_tree.proofs.name.Name.from_word.Goals as goal

pub invariant_of-result : goal.invariant_of-result
invariant_of-result c = named c.args.word.now _ c.requires (c.make_ascii_uppercase.ensures.after ∙ ap upper c.copy_from_slice.ensures.after)
