use Rattle.std.proofs.Common.{◌∙◌, ap}
use Rattle.std.specs.Option.{option_and_then}
use Rattle.sml_check_faults.specs.Tables.{group_item}
use Rattle.sml_check_faults.proofs.tables.Tables.group_at.Goals as goal

pub returns-in-Some : goal.returns-in-Some
returns-in-Some g c = c.group_item.ensures ∙ ap (option_and_then group_item) c.in-Some.ensures

pub returns-in-None : goal.returns-in-None
returns-in-None g c = ap (option_and_then group_item) c.in-None.ensures
