use Rattle.std.proofs.Common.{◌∙◌, ap, map, nat_eq, option_map}
use Rattle.std.specs.Cmp.Lexicographic.{pointwise}
use Rattle.std.proofs.lemmas.List.{take_all}
use Rattle.indexmap.specs.IndexMap.{get}
use Rattle.sml_tree.specs.Content.{action_content}
use Rattle.sml_check_faults.specs.Lookup.{is_action_named}
use Rattle.sml_check_faults.specs.Tables.{first_or_else, in_state, place_of}
use Rattle.sml_check_faults.proofs.ActionPlaces.{action_noted}
use Rattle.sml_check_faults.proofs.actions.note_actions.Goals as goal

pub loop-i-preserved : goal.loop-i-preserved
loop-i-preserved g c = λ q.
    action_noted action_content c.args.state c.args.actions.now c.loop-i.i c.index-actions-i.result q (get (pointwise nat_eq) c.args.table.now q) (get (pointwise nat_eq) c.loop-i.table q) _
    c.loop-i-test.true c.index-actions-i.is (c.loop-i.invariant q) (c.in_ok-note.ensures.noted q)

pub returns : goal.returns
returns g c = record {
  noted = λ q.
      let was = get (pointwise nat_eq) c.args.table.now q in
      c.loop-i.invariant q ∙ ap (λ ys. first_or_else was (option_map (in_state c.args.state) (place_of (is_action_named q) (map action_content ys)))) (take_all c.loop-i.i c.args.actions.now c.loop-i-test.false);
}
