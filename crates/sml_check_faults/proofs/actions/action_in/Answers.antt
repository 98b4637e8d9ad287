use Rattle.std.proofs.Common.{◌∙◌, ap, sym, refl, option_map}
use Rattle.std.specs.Option.{option_and_then}
use Rattle.sml_tree.specs.Content.{state_content, action_content}
use Rattle.sml_check_faults.specs.Tables.{nth_action}
use Rattle.sml_check_faults.proofs.Places.{got}
use Rattle.sml_check_faults.proofs.actions.action_in.Goals as goal

pub returns-in-Some : goal.returns-in-Some
returns-in-Some g c =
    let states = c.args.states.now in
    let place = c.args.place in
    got action_content c.in-Some.state.now.actions.items c.deref.result.now place.action c.get-in-Some.result c.deref.ensures.value c.get-in-Some.ensures.lookup
    ∙ ap (option_and_then (nth_action place.action)) (sym (ap (option_map (λ s. state_content s.now)) c.in-Some.is) ∙ got state_content states states place.state c.get.result refl c.get.ensures.lookup)

pub returns-in-None : goal.returns-in-None
returns-in-None g c =
    let states = c.args.states.now in
    let place = c.args.place in
    ap (option_and_then (nth_action place.action)) (sym (ap (option_map (λ s. state_content s.now)) c.in-None.is) ∙ got state_content states states place.state c.get.result refl c.get.ensures.lookup)
