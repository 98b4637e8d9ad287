-- A file with no two of one name has no `Duplicate`.
use Rattle.std.proofs.Common.{◌≡◌, ◌∙◌, refl, false, List, [], flat_map, is_some}
use Rattle.std.specs.List.{Contains, list_any}
use Rattle.sml_tree.specs.Syntax.{ItemData, class, object, group, ClassData, ObjectData, GroupData, StateData, ActionData, ActionParamData}
use Rattle.sml_check_faults.specs.Sites.{Site, asks, tests, sets, ends, changes, block_sites}
use Rattle.sml_check_faults.specs.Lookup.{named, actions_of, is_state_named, is_action_named, is_class_param, is_action_param, class_param_named, is_passed}
use Rattle.sml_check_faults.specs.Repeats.{each_after, repeated_name, repeated_passed, repeated_site, repeated_class_param, repeated_action_param, repeated_in_action, repeated_action, repeated_state, repeated_in_class, repeated_item, is_class_named, is_object_named, is_group}
use Rattle.sml_check_faults.specs.Inside.{StandsBefore, HasState, HasAction, HasSite}
use Rattle.sml_check_faults.specs.PairLaws.{AreDifferent, OnlyPairs}
use Rattle.sml_check_faults.proofs.Pairs.{Split, both_nil, flat_none, none_after, contains_split, contains_all, so_not, both_false, none_from, alone, not_named, found_any}

module _ (file : List ItemData) (d : AreDifferent file) where
  at_site : (c : ClassData) (a : ActionData) (site : Site) → HasSite file c a site → repeated_site site ≡ []
  at_site c a (asks s) at = none_after repeated_passed s.args (λ q r. so_not _ q.name (alone (is_passed q.name) s.args q r (λ p b. not_named p.name q.name (d.arguments c a s at p q b))))
  at_site c a (tests t) at = refl
  at_site c a (sets n v) at = refl
  at_site c a (ends s) at = refl
  at_site c a (changes add member set) at = refl

  at_param : (c : ClassData) (a : ActionData) → HasAction file c a → (q : ActionParamData) (r : Split q a.params) → repeated_action_param c r.before q ≡ []
  at_param c a at q r =
      so_not _ q.name
      (both_false (is_some (class_param_named c q.name)) (list_any (is_action_param q.name) r.before)
      (found_any (is_class_param q.name) c.params ∙ none_from (is_class_param q.name) c.params (λ p in_class. not_named p.name q.name (d.new_params c a at p in_class q (contains_split a.params q r))))
      (alone (is_action_param q.name) a.params q r (λ p b. not_named p.name q.name (d.action_params c a at p q b))))

  in_action : (c : ClassData) (a : ActionData) → HasAction file c a → repeated_in_action c a ≡ []
  in_action c a at =
      both_nil (each_after (repeated_action_param c) [] a.params) (flat_map repeated_site (block_sites a.body)) (none_after (repeated_action_param c) a.params (at_param c a at))
      (flat_none repeated_site (block_sites a.body) (λ site here. at_site c a site (record { class_in = at.class_in; action_in = at.action_in; site_in = here })))

  at_action : (c : ClassData) (s : StateData) → HasState file c s → (b : ActionData) (r : Split b s.actions) → repeated_action c r.before b ≡ []
  at_action c s at b r =
      both_nil _ (repeated_in_action c b) (so_not _ b.name (alone (is_action_named b.name) s.actions b r (λ a before. not_named a.name b.name (d.actions c s at a b before))))
      (in_action c b (record { class_in = at.class_in; action_in = contains_all actions_of c.states s b at.state_in (contains_split s.actions b r) }))

  at_state : (c : ClassData) → Contains file (class c) → (t : StateData) (r : Split t c.states) → repeated_state c r.before t ≡ []
  at_state c at t r =
      both_nil _ (each_after (repeated_action c) [] t.actions) (so_not _ t.name (alone (is_state_named t.name) c.states t r (λ s b. not_named s.name t.name (d.states c at s t b))))
      (none_after (repeated_action c) t.actions (at_action c t (record { class_in = at; state_in = contains_split c.states t r })))

  in_class : (c : ClassData) → Contains file (class c) → repeated_in_class c ≡ []
  in_class c at =
      both_nil (each_after repeated_class_param [] c.params) (each_after (repeated_state c) [] c.states)
      (none_after repeated_class_param c.params (λ q r. so_not _ q.name (alone (is_class_param q.name) c.params q r (λ p b. not_named p.name q.name (d.class_params c at p q b)))))
      (none_after (repeated_state c) c.states (at_state c at))

  other_class : (c : ClassData) (x : ItemData) → StandsBefore x (class c) file → is_class_named c.name x ≡ false
  other_class c (class b) before = not_named b.name c.name (d.classes b c before)
  other_class c (object o) before = refl
  other_class c (group g) before = refl

  other_object : (o : ObjectData) (x : ItemData) → StandsBefore x (object o) file → is_object_named o.name x ≡ false
  other_object o (class c) before = refl
  other_object o (object p) before = not_named p.name o.name (d.objects p o before)
  other_object o (group g) before = refl

  other_set : (h : GroupData) (x : ItemData) → StandsBefore x (group h) file → is_group h.name x ≡ false
  other_set h (class c) before = refl
  other_set h (object o) before = refl
  other_set h (group g) before = not_named g.name h.name (d.sets g h before)

  at_item : (x : ItemData) (r : Split x file) → repeated_item r.before x ≡ []
  at_item (class c) r =
      both_nil _ (repeated_in_class c) (so_not _ c.name (alone (is_class_named c.name) file (class c) r (other_class c))) (in_class c (contains_split file (class c) r))
  at_item (object o) r = so_not _ o.name (alone (is_object_named o.name) file (object o) r (other_object o))
  at_item (group g) r =
      both_nil _ (each_after repeated_name [] g.members) (so_not _ g.name (alone (is_group g.name) file (group g) r (other_set g)))
      (none_after repeated_name g.members (λ m s. so_not _ m (alone (named m) g.members m s (λ n b. not_named n m (d.members g (contains_split file (group g) r) n m b)))))

pub only_pairs : OnlyPairs
only_pairs file d = none_after repeated_item file (at_item file d)
