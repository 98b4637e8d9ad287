-- A file without `Duplicate` has no two of one name.
use Rattle.std.proofs.Common.{◌≡◌, ◌∙◌, sym, refl, List, [], flat_map, is_some}
use Rattle.std.specs.List.{Contains, list_any}
use Rattle.sml_tree.specs.Syntax.{ItemData, class, object, group, ClassData, StateData, ActionData}
use Rattle.sml_check_faults.specs.Sites.{asks, block_sites}
use Rattle.sml_check_faults.specs.Lookup.{named, where_so, actions_of, is_state_named, is_action_named, is_class_param, is_action_param, class_param_named, is_passed}
use Rattle.sml_check_faults.specs.Repeats.{each_after, repeated_name, repeated_passed, repeated_site, repeated_class_param, repeated_action_param, repeated_in_action, repeated_action, repeated_state, repeated_in_class, repeated_item, is_class_named, is_object_named, is_group}
use Rattle.sml_check_faults.specs.Inside.{HasState, HasAction}
use Rattle.sml_check_faults.specs.PairLaws.{ClassesDiffer, ObjectsDiffer, SetsDiffer, FileMembersDiffer, ClassParamsDiffer, StatesDiffer, ActionsDiffer, ActionParamsDiffer, ParamsAreNew, ArgumentsDiffer, NoPairs}
use Rattle.sml_check_faults.proofs.Pairs.{left_nil, right_nil, each_nil, flat_nil, not_so, first_false, second_false, none_of, other_names, differ, found_any, contains_one}

module _ (file : List ItemData) (none : each_after repeated_item [] file ≡ []) where
  classes_differ : ClassesDiffer file
  classes_differ c d b = differ (is_class_named d.name) repeated_item file (class c) (class d) c.name d.name b none (λ bs h. not_so _ _ (left_nil _ (repeated_in_class d) h)) refl

  objects_differ : ObjectsDiffer file
  objects_differ o p b = differ (is_object_named p.name) repeated_item file (object o) (object p) o.name p.name b none (λ bs h. not_so _ _ h) refl

  sets_differ : SetsDiffer file
  sets_differ g h b = differ (is_group h.name) repeated_item file (group g) (group h) g.name h.name b none (λ bs e. not_so _ _ (left_nil _ (each_after repeated_name [] h.members) e)) refl

  members_differ : FileMembersDiffer file
  members_differ g at n m b =
      let here = each_nil repeated_item file (group g) at none in
      differ (named m) repeated_name g.members n m n m b (right_nil (where_so (list_any (is_group g.name) here.0) g.name) _ here.1) (λ bs h. not_so _ _ h) refl

  in_class : (c : ClassData) → Contains file (class c) → repeated_in_class c ≡ []
  in_class c at = let here = each_nil repeated_item file (class c) at none in right_nil (where_so (list_any (is_class_named c.name) here.0) c.name) _ here.1

  class_params_differ : ClassParamsDiffer file
  class_params_differ c at p q b =
      differ (is_class_param q.name) repeated_class_param c.params p q p.name q.name b (left_nil _ (each_after (repeated_state c) [] c.states) (in_class c at)) (λ bs h. not_so _ _ h) refl

  in_states : (c : ClassData) → Contains file (class c) → each_after (repeated_state c) [] c.states ≡ []
  in_states c at = right_nil (each_after repeated_class_param [] c.params) _ (in_class c at)

  states_differ : StatesDiffer file
  states_differ c at s t b =
      differ (is_state_named t.name) (repeated_state c) c.states s t s.name t.name b (in_states c at) (λ bs h. not_so _ _ (left_nil _ (each_after (repeated_action c) [] t.actions) h)) refl

  in_actions : (c : ClassData) (s : StateData) → HasState file c s → each_after (repeated_action c) [] s.actions ≡ []
  in_actions c s at =
      let here = each_nil (repeated_state c) c.states s at.state_in (in_states c at.class_in) in right_nil (where_so (list_any (is_state_named s.name) here.0) s.name) _ here.1

  actions_differ : ActionsDiffer file
  actions_differ c s at a b before =
      differ (is_action_named b.name) (repeated_action c) s.actions a b a.name b.name before (in_actions c s at) (λ bs h. not_so _ _ (left_nil _ (repeated_in_action c b) h)) refl

  in_action : (c : ClassData) (a : ActionData) → HasAction file c a → repeated_in_action c a ≡ []
  in_action c a at =
      let s = contains_one actions_of c.states a at.action_in in
      let here = each_nil (repeated_action c) s.0.actions a s.2 (in_actions c s.0 (record { class_in = at.class_in; state_in = s.1 })) in
      right_nil (where_so (list_any (is_action_named a.name) here.0) a.name) _ here.1

  in_params : (c : ClassData) (a : ActionData) → HasAction file c a → each_after (repeated_action_param c) [] a.params ≡ []
  in_params c a at = left_nil _ (flat_map repeated_site (block_sites a.body)) (in_action c a at)

  action_params_differ : ActionParamsDiffer file
  action_params_differ c a at p q b =
      differ (is_action_param q.name) (repeated_action_param c) a.params p q p.name q.name b (in_params c a at)
      (λ bs h. second_false (is_some (class_param_named c q.name)) (list_any (is_action_param q.name) bs) (not_so _ q.name h)) refl

  params_are_new : ParamsAreNew file
  params_are_new c a at p in_class q in_list =
      let here = each_nil (repeated_action_param c) a.params q in_list (in_params c a at) in
      let none_found = first_false (is_some (class_param_named c q.name)) (list_any (is_action_param q.name) here.0) (not_so _ q.name here.1) in
      other_names p.name q.name (none_of (is_class_param q.name) c.params p in_class (sym (found_any (is_class_param q.name) c.params) ∙ none_found))

  arguments_differ : ArgumentsDiffer file
  arguments_differ c a s at p q b =
      let in_sites = right_nil (each_after (repeated_action_param c) [] a.params) _ (in_action c a (record { class_in = at.class_in; action_in = at.action_in })) in
      differ (is_passed q.name) repeated_passed s.args p q p.name q.name b (flat_nil repeated_site (block_sites a.body) (asks s) at.site_in in_sites) (λ bs h. not_so _ _ h) refl

-- all of them
pub no_pairs : NoPairs
no_pairs file none = record {
  classes = classes_differ file none;
  objects = objects_differ file none;
  sets = sets_differ file none;
  members = members_differ file none;
  class_params = class_params_differ file none;
  states = states_differ file none;
  actions = actions_differ file none;
  action_params = action_params_differ file none;
  new_params = params_are_new file none;
  arguments = arguments_differ file none;
}
