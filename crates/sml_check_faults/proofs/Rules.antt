-- A file is well-formed exactly if it keeps the rules.
use Rattle.std.proofs.Common.{◌≡◌, ◌∙◌, sym, ap, refl, ℕ, false, not, List, [], map, flat_map}
use Rattle.std.specs.List.{Contains}
use Rattle.sml_tree.specs.Syntax.{ItemData, class, object, group, ClassData, ObjectData, GroupData, ActionData}
use Rattle.sml_check_faults.specs.declared.kind.CheckKind.{CheckKind}
use Rattle.sml_check_faults.specs.declared.kind.CheckKind.TheVariants.{Duplicate, NoState, TwoInitial, TwoDead, UnknownClass, UnknownObject, UnknownSet, UnknownState, UnknownAction, UnknownParam, KindMismatch, MissingArg, ParamsDiffer, SelfInCondition, AssociatedBody, Memory}
use Rattle.sml_check_faults.specs.Sites.{Site, asks, tests, sets, ends, changes, block_sites}
use Rattle.sml_check_faults.specs.Lookup.{actions, is_action_named, file_action_named}
use Rattle.sml_check_faults.specs.Heads.{differs, same_params}
use Rattle.sml_check_faults.specs.Kinds.{faults_of, with_kind, kinds, site_faults}
use Rattle.sml_check_faults.specs.Inside.{HasAction}
use Rattle.sml_check_faults.specs.Laws.{OfWellFormed}
use Rattle.sml_check_faults.specs.Sound.{FileIsSound, SoundIsWellFormed}
use Rattle.sml_check_faults.proofs.Pairs.{flat_none, named_same, same_names}
use Rattle.sml_check_faults.proofs.OnlyPairs.{only_pairs}
use Rattle.sml_check_faults.proofs.Named.{found_there}
use Rattle.sml_check_faults.proofs.SameParams.{params_themselves}
use Rattle.sml_check_faults.proofs.Parts.{no_part}
use Rattle.sml_check_faults.proofs.Declared.{objects_have_classes, members_are_objects, targets_are_declared, tests_are_declared, changes_are_declared}
use Rattle.sml_check_faults.proofs.Asked.{targets_have_actions, arguments_are_complete}
use Rattle.sml_check_faults.proofs.Fitting.{ends_are_states, tests_name_states, arguments_have_kinds, arguments_fit, sets_fit, class_defaults_fit, action_defaults_fit}
use Rattle.sml_check_faults.proofs.Sound.{different, classes_have_states, one_is_initial, one_is_dead, associated_are_empty, tests_ask_others, params_of_both}
use Rattle.sml_check_faults.proofs.Suffices.{no_state, two_initial, two_dead, associated_body, unknown_class, unknown_object_none, unknown_set_none, unknown_state, self_in_condition}
use Rattle.sml_check_faults.proofs.Requests.{unknown_action, missing_arg, unknown_param, kind_mismatch}

pub keeps_rules : OfWellFormed FileIsSound
keeps_rules file ok = record {
  different = different file ok;
  objects_have_classes = objects_have_classes file ok;
  members_are_objects = members_are_objects file ok;
  targets_are_declared = targets_are_declared file ok;
  tests_are_declared = tests_are_declared file ok;
  changes_are_declared = changes_are_declared file ok;
  targets_have_actions = targets_have_actions file ok;
  arguments_are_complete = arguments_are_complete file ok;
  arguments_have_kinds = arguments_have_kinds file ok;
  arguments_fit = arguments_fit file ok;
  sets_fit = sets_fit file ok;
  class_defaults_fit = class_defaults_fit file ok;
  action_defaults_fit = action_defaults_fit file ok;
  ends_are_states = ends_are_states file ok;
  tests_name_states = tests_name_states file ok;
  tests_ask_others = tests_ask_others file ok;
  classes_have_states = classes_have_states file ok;
  one_is_initial = one_is_initial file ok;
  one_is_dead = one_is_dead file ok;
  associated_are_empty = associated_are_empty file ok;
  params_agree = params_of_both file ok;
}

-- none of the items has anything
by_item : (f : ItemData → List (List ℕ)) (file : List ItemData) → ((c : ClassData) → Contains file (class c) → f (class c) ≡ []) → ((o : ObjectData) → f (object o) ≡ [])
    → ((g : GroupData) → f (group g) ≡ []) → flat_map f file ≡ []
by_item f file at_class at_object at_group = flat_none f file by
  where
    by : (x : ItemData) → Contains file x → f x ≡ []
    by (class c) at = at_class c at
    by (object o) at = at_object o
    by (group g) at = at_group g

module _ (file : List ItemData) (sound : FileIsSound file) where
  same_everywhere : (c : ClassData) (a : ActionData) → HasAction file c a → differs (file_action_named c a.name) a ≡ false
  same_everywhere c a at =
      let f = found_there (is_action_named a.name) (actions c) a at.action_in (named_same a.name a.name refl) in
      let same = sound.params_agree c f.item a (record { class_in = at.class_in; action_in = f.at }) at (sym (same_names a.name f.item.name f.passes)) in
      ap (λ o. differs o a) f.is ∙ ap (λ b. not b) (ap (λ ps. same_params ps a.params) same ∙ params_themselves a.params)

  quiet : (c : ClassData) (a : ActionData) (site : Site) → site_faults ParamsDiffer file c a site ≡ []
  quiet c a (asks s) = refl
  quiet c a (tests t) = refl
  quiet c a (sets n v) = refl
  quiet c a (ends n) = refl
  quiet c a (changes add member set) = refl

  params_differ : faults_of ParamsDiffer file ≡ []
  params_differ =
      by_item _ file
      (λ c at.
      flat_none _ (actions c)
      (λ a here.
      let same = same_everywhere c a (record { class_in = at; action_in = here }) in
      let none = flat_none (site_faults ParamsDiffer file c a) (block_sites a.body) (λ site in_body. quiet c a site) in
      cc))
      (λ o. refl) (λ g. refl)

  -- of no kind
  none_of_kind : (kind : CheckKind) → faults_of kind file ≡ []
  none_of_kind Duplicate = only_pairs file sound.different
  none_of_kind NoState = no_state file sound
  none_of_kind TwoInitial = two_initial file sound
  none_of_kind TwoDead = two_dead file sound
  none_of_kind UnknownClass = unknown_class file sound
  none_of_kind UnknownObject = unknown_object_none file sound
  none_of_kind UnknownSet = unknown_set_none file sound
  none_of_kind UnknownState = unknown_state file sound
  none_of_kind UnknownAction = unknown_action file sound
  none_of_kind UnknownParam = unknown_param file sound
  none_of_kind KindMismatch = kind_mismatch file sound
  none_of_kind MissingArg = missing_arg file sound
  none_of_kind ParamsDiffer = params_differ
  none_of_kind SelfInCondition = self_in_condition file sound
  none_of_kind AssociatedBody = associated_body file sound
  none_of_kind Memory =
      no_part Memory file
      (record {
        at_class = λ c at. refl;
        at_action = λ c a at. refl;
        at_send = λ c a s at. refl;
        at_test = λ c a t at. refl;
        at_set = λ c a n v at. refl;
        at_end = λ c a n at. refl;
        at_change = λ c a add m s at. refl;
        at_object = λ o at. refl;
        at_group = λ g at. refl;
      })

pub sound_is_well_formed : SoundIsWellFormed
sound_is_well_formed file sound = flat_none (with_kind file) kinds (λ kind at. ap (map (λ n. (kind, n))) (none_of_kind file sound kind))
