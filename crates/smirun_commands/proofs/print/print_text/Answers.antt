use Rattle.sml_tree.specs.Content.{file_content}
use Rattle.smirun_commands.proofs.print.print_text.Goals as goal

pub returns-in-Ok-write_to-clause-printed : goal.returns-in-Ok-write_to-clause-printed
returns-in-Ok-write_to-clause-printed g c = (file_content c.in-Ok.tree, c.in-Ok.ensures.read, c.in-Ok-write_to.ensures.ok)
