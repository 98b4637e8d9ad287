use Rattle.std.proofs.Common.{subst, sym, map, IfOk}
use Rattle.sml_tree.specs.Content.{item_content, state_content}
use Rattle.sml_check_faults.specs.Tables.{HasActions, HasActionsOf}
use Rattle.sml_check_faults.proofs.actions.item_table.Goals as goal

pub returns-in-Class : goal.returns-in-Class
returns-in-Class g c =
    subst (λ i. IfOk c.states_table.result (λ m. HasActionsOf (item_content i) m)) (sym c.in-Class.is)
    (subst (λ ss. IfOk c.states_table.result (λ m. HasActions (map state_content ss) m)) c.deref.ensures.value c.states_table.ensures)
