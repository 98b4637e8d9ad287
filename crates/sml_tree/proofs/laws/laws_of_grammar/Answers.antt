use Rattle.sml_tree.proofs.Conditions.{same_conditions}
use Rattle.sml_tree.proofs.StateMarks.{same_marks}
use Rattle.sml_tree.proofs.Reserved.{names_are_not_reserved}
use Rattle.sml_tree.proofs.Opened.{few_brackets}
use Rattle.sml_tree.proofs.Unmarked.{within_limits}
use Rattle.sml_tree.proofs.laws.laws_of_grammar.Goals as goal

pub returns : goal.returns
returns c = record { conditions = same_conditions; marks = same_marks; names = names_are_not_reserved; limits = within_limits; brackets = few_brackets }
