-- A file that keeps the rules of requests and values has none of their faults.
use Rattle.std.proofs.Common.{◌≡◌, ◌∙◌, sym, ap, refl, ℕ, Bool, true, false, not, ◌&&◌, ◌||◌, List, [], flat_map, Option, Some, None, is_some, option_map, ◌⊎◌, inl, inr}
use Rattle.std.specs.List.{Contains, list_any}
use Rattle.sml_tree.specs.declared.file.Kind.{Kind}
use Rattle.sml_tree.specs.Syntax.{LiteralData, ArgData, lit, param, ItemData, class, group, ClassData, GroupData, ActionData, ActionParamData, ClassParamData, PassedData, SendData}
use Rattle.sml_check_faults.specs.declared.kind.CheckKind.TheVariants.{UnknownAction, UnknownParam, KindMismatch, MissingArg}
use Rattle.sml_check_faults.specs.Sites.{asks}
use Rattle.sml_check_faults.specs.Lookup.{actions, is_action_named, is_passed, is_class_param, is_action_param, class_param_named, action_param_named, action_in_class, action_of, objects_meant}
use Rattle.sml_check_faults.specs.Faults.{lacks_action, lacks_param, lacks_param_there, unknown_passed, unknown_value, literal_kind, class_param_kind, action_param_kind, kind_there, arg_kind, kinds_differ, file_param_kind, other_kind_there, mismatched, missing_param, missing_params, missing_at}
use Rattle.sml_check_faults.specs.Heads.{class_param_mismatch, action_param_mismatch}
use Rattle.sml_check_faults.specs.Kinds.{item_faults}
use Rattle.sml_check_faults.specs.Inside.{HasAction, HasSite, Declares, DeclaresObject, IsInserted, SpeaksOf, IsOfClass, AsksFor}
use Rattle.sml_check_faults.specs.Laws.{ParamIsGiven}
use Rattle.sml_check_faults.specs.ValueLaws.{ArgHasKind}
use Rattle.sml_check_faults.specs.Sound.{FileIsSound}
use Rattle.sml_check_faults.proofs.Pairs.{both_nil, flat_none, so_not, none_from, any_at, or_true, not_named, named_same, same_names, found_any}
use Rattle.sml_check_faults.proofs.Named.{spoken, class_of_is, finds, found_there}
use Rattle.sml_check_faults.proofs.SameParams.{kind_itself}
use Rattle.sml_check_faults.proofs.Suffices.{not_missed}
use Rattle.sml_check_faults.proofs.Parts.{no_part}
use Rattle.sml_tree.specs.Kinds.{same_kind}

-- a target of a `do`, its class, and the action that is found there
record Reached (file : List ItemData) (s : SendData) (o : List ℕ) : Type 0 where
  pub is_spoken_of : SpeaksOf file s.all s.target o
  pub of : ClassData
  pub is_of_class : IsOfClass file o of
  pub action : ActionData
  pub action_is_in : Contains (actions of) action
  pub action_name : action.name ≡ s.action
  pub is_found : action_of file s.action o ≡ Some action

and_false : (a b : Bool) → b ≡ false → (a && b) ≡ false
and_false true b e = e
and_false false b e = refl

none_is : {X : Type 0} (o : Option X) → is_some o ≡ false → o ≡ None
none_is None e = refl
none_is (Some x) e = cc

same_kinds : (k : Kind) → kinds_differ (Some k) (Some k) ≡ false
same_kinds k = ap (λ b. not b) (kind_itself k)

not_given : (args : List PassedData) (p : ActionParamData) → ParamIsGiven args p → (not (is_some p.default) && not (list_any (is_passed p.name) args)) ≡ false
not_given args p (inl default) = ap (λ b. not b && not (list_any (is_passed p.name) args)) default
not_given args p (inr passed) =
    and_false (not (is_some p.default)) (not (list_any (is_passed p.name) args))
    (ap (λ b. not b) (any_at (is_passed p.name) args passed.0 passed.1 (named_same p.name passed.0.name (sym passed.2))))

module _ (file : List ItemData) (sound : FileIsSound file) where
  may_be_declared : (g : GroupData) → Contains file (group g) → (n o : List ℕ) → Contains g.members o
      ⊎ IsInserted file n o → DeclaresObject file o
  may_be_declared g at n o (inl member) = sound.members_are_objects g at o member
  may_be_declared g at n o (inr inserted) = inserted.declared

  target_class : (set : Bool) (n o : List ℕ) → Declares file set n → SpeaksOf file set n o → (d : ClassData) × IsOfClass file o d
  target_class false n o declared is =
      let d = sound.objects_have_classes declared.0 declared.1 in
      (d.0, record { declared = declared.0; object_in = declared.1; object_name = declared.2 ∙ sym is; class_in = d.1; class_name = d.2 })
  target_class true n o declared in_set =
      let p = may_be_declared in_set.0 in_set.1 n o in_set.3 in
      let d = sound.objects_have_classes p.0 p.1 in
      (d.0, record { declared = p.0; object_in = p.1; object_name = p.2; class_in = d.1; class_name = d.2 })

  reached : (c : ClassData) (a : ActionData) (s : SendData) → HasSite file c a (asks s) → (o : List ℕ) → Contains (objects_meant file s.all s.target) o → Reached file s o
  reached c a s at o meant =
      let speaks = spoken file s.all s.target o meant in
      let d = target_class s.all s.target o (sound.targets_are_declared c a s at) speaks in
      let b = sound.targets_have_actions s d.0 (record { own_class = c; own_action = a; site = at; target = o; is_target = speaks; target_class = d.1 }) in
      let f = found_there (is_action_named s.action) (actions d.0) b.0 b.1 (named_same s.action b.0.name (sym b.2)) in
      record {
        is_spoken_of = speaks;
        of = d.0;
        is_of_class = d.1;
        action = f.item;
        action_is_in = f.at;
        action_name = sym (same_names s.action f.item.name f.passes);
        is_found = ap (λ r. action_in_class r s.action) (class_of_is file sound.different o d.0 d.1) ∙ f.is;
      }

  abbrev request : (c : ClassData) (a : ActionData) (s : SendData) → HasSite file c a (asks s) → (o : List ℕ) → (r : Reached file s o) → AsksFor file s r.of r.action
  request c a s at o r =
      record {
        sends = record { own_class = c; own_action = a; site = at; target = o; is_target = r.is_spoken_of; target_class = r.is_of_class };
        action_in = r.action_is_in;
        action_name = r.action_name;
      }

  pub unknown_action : flat_map (item_faults UnknownAction file) file ≡ []
  unknown_action =
      no_part UnknownAction file
      (record {
        at_class = λ c at. refl;
        at_action = λ c a at. refl;
        at_send = λ c a s at.
            so_not _ s.action
            (none_from (lacks_action file s.action) (objects_meant file s.all s.target)
            (λ o meant. let r = reached c a s at o meant in not_missed (action_of file s.action o) r.action r.is_found));
        at_test = λ c a t at. refl;
        at_set = λ c a n v at. refl;
        at_end = λ c a n at. refl;
        at_change = λ c a add m s at. refl;
        at_object = λ o at. refl;
        at_group = λ g at. refl;
      })

  pub missing_arg : flat_map (item_faults MissingArg file) file ≡ []
  missing_arg =
      no_part MissingArg file
      (record {
        at_class = λ c at. refl;
        at_action = λ c a at. refl;
        at_send = λ c a s at.
            flat_none (missing_at file s.action s.args) (objects_meant file s.all s.target)
            (λ o meant.
            let r = reached c a s at o meant in
            ap (missing_params s.args) r.is_found
            ∙ flat_none (missing_param s.args) r.action.params
            (λ p in_params. so_not _ p.name (not_given s.args p (sound.arguments_are_complete s r.of r.action (request c a s at o r) p in_params))));
        at_test = λ c a t at. refl;
        at_set = λ c a n v at. refl;
        at_end = λ c a n at. refl;
        at_change = λ c a add m s at. refl;
        at_object = λ o at. refl;
        at_group = λ g at. refl;
      })

  -- ---- values

  class_param_is : (c : ClassData) → Contains file (class c) → (p : ClassParamData) → Contains c.params p → (n : List ℕ) → p.name ≡ n → class_param_named c n ≡ Some p
  class_param_is c at p in_params n is =
      finds (is_class_param n) c.params p in_params (named_same n p.name (sym is)) (λ q b. not_named q.name n (λ same. sound.different.class_params c at q p b (same ∙ sym is)))

  action_param_is : (c : ClassData) (a : ActionData) → HasAction file c a → (p : ActionParamData) → Contains a.params p → (n : List ℕ) → p.name ≡ n → action_param_named a n ≡ Some p
  action_param_is c a at p in_params n is =
      finds (is_action_param n) a.params p in_params (named_same n p.name (sym is)) (λ q b. not_named q.name n (λ same. sound.different.action_params c a at q p b (same ∙ sym is)))

  no_class_param : (c : ClassData) (a : ActionData) → HasAction file c a → (p : ActionParamData) → Contains a.params p → (n : List ℕ) → p.name ≡ n → class_param_named c n ≡ None
  no_class_param c a at p in_params n is =
      none_is (class_param_named c n)
      (found_any (is_class_param n) c.params
      ∙ none_from (is_class_param n) c.params (λ q in_class. not_named q.name n (λ same. sound.different.new_params c a at q in_class p in_params (same ∙ sym is))))

  -- a value of a kind is found to be of that kind
  kind_is : (c : ClassData) (a : ActionData) → HasAction file c a → (v : ArgData) (k : Kind) → ArgHasKind c a v k → arg_kind c a v ≡ Some k
  kind_is c a at (lit l) k is = ap (λ j. Some j) is
  kind_is c a at (param n) k (inl p) = ap (λ o. kind_there o (action_param_named a n)) (class_param_is c at.class_in p.0 p.1 n p.2) ∙ ap (λ j. Some j) p.3
  kind_is c a at (param n) k (inr p) =
      ap (λ o. kind_there o (action_param_named a n)) (no_class_param c a at p.0 p.1 n p.2) ∙ ap (kind_there None) (action_param_is c a at p.0 p.1 n p.2) ∙ ap (λ j. Some j) p.3

  known : (c : ClassData) (a : ActionData) → HasAction file c a → (v : ArgData) (k : Kind) → ArgHasKind c a v k → unknown_value c a v ≡ []
  known c a at (lit l) k is = refl
  known c a at (param n) k (inl p) = so_not _ n (ap (λ o. not (is_some o || is_some (action_param_named a n))) (class_param_is c at.class_in p.0 p.1 n p.2))
  known c a at (param n) k (inr p) =
      so_not _ n (ap (λ b. not b) (or_true (is_some (class_param_named c n)) (is_some (action_param_named a n)) (ap (λ o. is_some o) (action_param_is c a at p.0 p.1 n p.2))))

  abbrev owner : (c : ClassData) (a : ActionData) (s : SendData) → HasSite file c a (asks s) → HasAction file c a
  owner c a s at = record { class_in = at.class_in; action_in = at.action_in }

  -- the parameter that an argument names is found, and is of its kind
  argument : (c : ClassData) (a : ActionData) (s : SendData) → HasSite file c a (asks s) → (q : PassedData) → Contains s.args q → (o : List ℕ) → (r : Reached file s o)
      → (p : ActionParamData) × (action_param_named r.action q.name ≡ Some p) × ArgHasKind c a q.value p.kind
  argument c a s at q in_args o r =
      let p = sound.arguments_fit s r.of r.action (request c a s at o r) q in_args in
      (p.0, action_param_is r.of r.action (record { class_in = r.is_of_class.class_in; action_in = r.action_is_in }) p.0 p.1 q.name p.2, p.3)

  pub unknown_param : flat_map (item_faults UnknownParam file) file ≡ []
  unknown_param =
      no_part UnknownParam file
      (record {
        at_class = λ c at. refl;
        at_action = λ c a at. refl;
        at_send = λ c a s at.
            flat_none (unknown_passed file s.action (objects_meant file s.all s.target) c a) s.args
            (λ q in_args.
            let k = sound.arguments_have_kinds c a s at q in_args in
            both_nil _ (unknown_value c a q.value)
            (so_not _ q.name
            (none_from (lacks_param_there file s.action q.name) (objects_meant file s.all s.target)
            (λ o meant.
            let r = reached c a s at o meant in
            let p = argument c a s at q in_args o r in
            ap (lacks_param q.name) r.is_found ∙ not_missed (action_param_named r.action q.name) p.0 p.1)))
            (known c a (owner c a s at) q.value k.0 k.1));
        at_test = λ c a t at. refl;
        at_set = λ c a n v at.
            let p = sound.sets_fit c a n v at in
            both_nil _ (unknown_value c a v) (so_not _ n (not_missed (class_param_named c n) p.0 (class_param_is c at.class_in p.0 p.1 n p.2)))
            (known c a (record { class_in = at.class_in; action_in = at.action_in }) v p.0.kind p.3);
        at_end = λ c a n at. refl;
        at_change = λ c a add m s at. refl;
        at_object = λ o at. refl;
        at_group = λ g at. refl;
      })

  pub kind_mismatch : flat_map (item_faults KindMismatch file) file ≡ []
  kind_mismatch =
      no_part KindMismatch file
      (record {
        at_class = λ c at.
            flat_none class_param_mismatch c.params
            (λ p in_params. so_not _ p.name (ap (λ b. not b) (ap (same_kind p.kind) (sound.class_defaults_fit c at p in_params) ∙ kind_itself p.kind)));
        at_action = λ c a at. flat_none action_param_mismatch a.params (λ p in_params. so_not _ p.name (default_fits p (sound.action_defaults_fit c a at p in_params)));
        at_send = λ c a s at.
            flat_none (mismatched file s.action (objects_meant file s.all s.target) c a) s.args
            (λ q in_args.
            so_not _ q.name
            (none_from (other_kind_there file s.action (arg_kind c a q.value) q.name) (objects_meant file s.all s.target)
            (λ o meant.
            let r = reached c a s at o meant in
            let p = argument c a s at q in_args o r in
            ap (λ j. kinds_differ j (arg_kind c a q.value)) (ap (file_param_kind q.name) r.is_found ∙ ap (option_map action_param_kind) p.1)
            ∙ ap (kinds_differ (Some p.0.kind)) (kind_is c a (owner c a s at) q.value p.0.kind p.2) ∙ same_kinds p.0.kind)));
        at_test = λ c a t at. refl;
        at_set = λ c a n v at.
            let p = sound.sets_fit c a n v at in
            so_not _ n
            (ap (λ o. kinds_differ (option_map class_param_kind o) (arg_kind c a v)) (class_param_is c at.class_in p.0 p.1 n p.2)
            ∙ ap (kinds_differ (Some p.0.kind)) (kind_is c a (record { class_in = at.class_in; action_in = at.action_in }) v p.0.kind p.3) ∙ same_kinds p.0.kind);
        at_end = λ c a n at. refl;
        at_change = λ c a add m s at. refl;
        at_object = λ o at. refl;
        at_group = λ g at. refl;
      })
    where
      default_fits : (p : ActionParamData) → ((l : LiteralData) → p.default ≡ Some l → literal_kind l ≡ p.kind) → kinds_differ (Some p.kind) (option_map literal_kind p.default) ≡ false
      default_fits p fits = by p.default refl
        where
          by : (d : Option LiteralData) → p.default ≡ d → kinds_differ (Some p.kind) (option_map literal_kind d) ≡ false
          by None is = refl
          by (Some l) is = ap (λ b. not b) (ap (same_kind p.kind) (fits l is) ∙ kind_itself p.kind)
