use Rattle.std.proofs.Common.{◌∙◌, ap, map}
use Rattle.std.specs.Option.{option_and_then}
use Rattle.sml_tree.specs.Content.{state_content}
use Rattle.sml_check_faults.specs.Tables.{action_there}
use Rattle.sml_check_faults.proofs.ActionPlaces.{action_found}
use Rattle.sml_check_faults.proofs.actions.action_by.Goals as goal

pub returns-in-Some : goal.returns-in-Some
returns-in-Some g c =
    let q = c.args.name.now in
    let states = map state_content c.args.states.now in
    c.action_in.ensures ∙ ap (option_and_then (action_there states)) (c.in-Some.ensures.value ∙ c.requires q) ∙ action_found q states

pub returns-in-None : goal.returns-in-None
returns-in-None g c =
    let q = c.args.name.now in
    let states = map state_content c.args.states.now in
    ap (option_and_then (action_there states)) (c.in-None.ensures.value ∙ c.requires q) ∙ action_found q states
