-- The requests of a file's domain fit those that they are sent to.
use Rattle.std.proofs.Common.{◌≡◌, ◌∙◌, sym, ap, refl, subst, ℕ, ◌<◌, Bool, true, false, ◌||◌, List, [], length, map, Some, is_some, option_map, All}
use Rattle.std.specs.Prelude.{slice_get, IsSomeAnd}
use Rattle.std.proofs.Common.{inl, inr}
use Rattle.std.specs.List.{Contains, list_any}
use Rattle.std.specs.Option.{option_map_or}
use Rattle.std.proofs.lemmas.Simd.{map-map}
use Rattle.std.proofs.lemmas.List.Elements.{All-map}
use Rattle.sml_tree.specs.Syntax.{PassedData, SendData, ItemData, class, group, ClassData, ActionData, ActionParamData}
use Rattle.sml_check_faults.specs.Sites.{asks}
use Rattle.sml_check_faults.specs.Lookup.{actions, is_action_named, is_action_param, objects_meant}
use Rattle.sml_check_faults.specs.Inside.{HasAction, HasSite, DeclaresObject, DeclaresSet, Declares, SpeaksOf, SendsToClass, AsksFor}
use Rattle.sml_check_faults.specs.Laws as laws
use Rattle.sml_check_faults.specs.Sound.{FileIsSound}
use Rattle.sml_check_faults.proofs.Pairs.{any_at, named_same, not_named, same_names, or_true, contains_all, contains_here}
use Rattle.sml_check_faults.proofs.Named.{finds, found_there, Found, spoken}
use Rattle.sml_domain.specs.Domain.{Domain, Param}
use Rattle.sml_domain.specs.Names.{AreDistinct}
use Rattle.sml_domain.specs.Fits.{param_kind, kind_named, names_param, names_argument, ArgumentFits, ArgumentsFit, IsGiven, RequestFits, SendFits, name_of_argument, ArgumentHasKind, DoFits}
use Rattle.sml_domain.specs.Lookups.{params_at, may_at, may_of_group}
use Rattle.sml_domain.specs.Values.{literal_value}
use Rattle.sml_domain.proofs.Finds.{find_map}
use Rattle.sml_check_build.specs.Numbers.{Names, names_of, names_of_actions, action_name, group_list, groups_in, place, number}
use Rattle.sml_check_build.specs.Programs.{argument_numbered, target_numbered}
use Rattle.sml_check_build.specs.Placed.{NameHasNumber}
use Rattle.sml_check_build.specs.Rows.{class_param_row, action_param_row, action_param_rows, params_where, group_row}
use Rattle.sml_check_build.specs.FileDomain.{IsDomainOf}
use Rattle.sml_check_build.proofs.Alike.{got_map, some_map}
use Rattle.sml_check_build.proofs.Numbered.{contains_map, all_from}
use Rattle.sml_check_build.proofs.Apart.{apart_map}
use Rattle.sml_check_build.proofs.Mays.{may_declared}
use Rattle.sml_check_build.proofs.Places.{value_kind}
use Rattle.sml_check_build.proofs.ObjectRows.{params_there, stands_there}
use Rattle.sml_check_build.proofs.PlacedFiles.{object_number, group_number, action_number}
use Rattle.sml_check_build.proofs.Ranges.{number_within, object_count, group_count, groups_apart}
use Rattle.sml_check_faults.specs.Tables.{group_name}

module _ (file : List ItemData) (d : Domain) (is : IsDomainOf file d) (ok : FileIsSound file) (c : ClassData) (at : Contains file (class c)) (a : ActionData) (has : HasAction file c a) where
  abbrev n : Names
  n = names_of file

  abbrev own : List Param
  own = map class_param_row c.params

  abbrev given : List Param
  given = map action_param_row a.params

  -- ---- arguments

  kind_of_named : (b : ClassData) (f : ActionData) → HasAction file b f → (x : List ℕ) (p : ActionParamData) → Contains f.params p → p.name ≡ x → kind_named (action_param_rows f) x ≡ Some p.kind
  kind_of_named b f in_it x p p_at named =
      ap (option_map param_kind)
      (find_map action_param_row (names_param x) f.params
      ∙ ap (option_map action_param_row)
      (finds (is_action_param x) f.params p p_at (named_same x p.name (sym named)) (λ q before. not_named q.name x (λ e. ok.different.action_params b f in_it q p before (e ∙ sym named)))))

  given_by : (s : SendData) (p : ActionParamData) → laws.ParamIsGiven s.args p → IsGiven (map (argument_numbered c a) s.args) (action_param_row p)
  given_by s p (inl some) = or_true (list_any (names_argument p.name) (map (argument_numbered c a) s.args)) (is_some (option_map literal_value p.default)) (some_map literal_value p.default ∙ some)
  given_by s p (inr q) =
      ap (λ b. b || is_some (option_map literal_value p.default))
      (any_at (names_argument p.name) (map (argument_numbered c a) s.args) (argument_numbered c a q.0) (contains_map (argument_numbered c a) s.args q.0 q.1) (named_same p.name q.0.name (sym q.2)))

  -- no two of one request have one name
  arguments_apart : (s : SendData) → HasSite file c a (asks s) → AreDistinct (map name_of_argument (map (argument_numbered c a) s.args))
  arguments_apart s site =
      subst AreDistinct (sym (map-map name_of_argument (argument_numbered c a) s.args)) (apart_map (λ (q : PassedData). q.name) s.args (ok.different.arguments c a s site))

  -- each has a kind, even where the request is sent to none
  arguments_have_kinds : (s : SendData) → HasSite file c a (asks s) → All (ArgumentHasKind own given) (map (argument_numbered c a) s.args)
  arguments_have_kinds s site =
      All-map (ArgumentHasKind own given) (argument_numbered c a) s.args
      (all_from (λ q. ArgumentHasKind own given (argument_numbered c a q)) s.args
      (λ q q_at. let k = ok.arguments_have_kinds c a s site q q_at in ap is_some (value_kind file ok c at a has q.value k.0 k.1)))

  -- ---- those that are asked

  abbrev sends_to : (s : SendData) → HasSite file c a (asks s) → (t : List ℕ) → SpeaksOf file s.all s.target t → (o : DeclaresObject file t) → SendsToClass file s (ok.objects_have_classes o.0 o.1).0
  sends_to s site t spoken o =
      let b = ok.objects_have_classes o.0 o.1 in
      record { own_class = c; own_action = a; site = site; target = t; is_target = spoken; target_class = record { declared = o.0; object_in = o.1; object_name = o.2; class_in = b.1; class_name = b.2 } }

  -- an action that is asked of an object has a number
  pub has_number : (s : SendData) → HasSite file c a (asks s) → (t : List ℕ) → SpeaksOf file s.all s.target t → DeclaresObject file t → is_some (place n.actions s.action) ≡ true
  has_number s site t spoken o =
      let b = ok.objects_have_classes o.0 o.1 in
      let f = ok.targets_have_actions s b.0 (sends_to s site t spoken o) in
      subst (λ y. is_some (place n.actions y) ≡ true) f.2 (action_number file b.0 b.1 f.0 f.1)

  pub request_fits : (s : SendData) → HasSite file c a (asks s) → (t : List ℕ) → SpeaksOf file s.all s.target t → DeclaresObject file t →
      RequestFits d own given (number n.actions s.action) (map (argument_numbered c a) s.args) (number n.objects t)
  request_fits s site t spoken o =
      let b = ok.objects_have_classes o.0 o.1 in
      let sends : SendsToClass file s b.0 = sends_to s site t spoken o in
      let g = ok.targets_have_actions s b.0 sends in
      let f : Found (is_action_named s.action) (actions b.0) = found_there (is_action_named s.action) (actions b.0) g.0 g.1 (named_same s.action g.0.name (sym g.2)) in
      let in_it : HasAction file b.0 f.item = record { class_in = b.1; action_in = f.at } in
      let listed : Contains (names_of_actions b.0) s.action = subst (Contains (names_of_actions b.0)) g.2 (contains_map action_name (actions b.0) g.0 g.1) in
      let says : params_at d (number n.objects t) (number n.actions s.action) ≡ Some (action_param_rows f.item) =
      ap (λ x. params_at d (number n.objects x) (number n.actions s.action)) (sym o.2)
      ∙ params_there file d is ok o.0 o.1 b.0 b.1 b.2 s.action listed ∙ ap (λ r. Some (params_where r)) f.is in
      let request : AsksFor file s b.0 f.item = record { sends = sends; action_in = f.at; action_name = sym (same_names s.action f.item.name f.passes) } in
      let fits : ArgumentsFit own given (map (argument_numbered c a) s.args) (action_param_rows f.item) = record {
        passed = All-map (ArgumentFits own given (action_param_rows f.item)) (argument_numbered c a) s.args
            (all_from (λ q. ArgumentFits own given (action_param_rows f.item) (argument_numbered c a q)) s.args
            (λ q q_at. let p = ok.arguments_fit s b.0 f.item request q q_at in
            record { kind = p.0.kind; param_is = kind_of_named b.0 f.item in_it q.name p.0 p.1 p.2; value_is = value_kind file ok c at a has q.value p.0.kind p.3 }));
        whole = All-map (IsGiven (map (argument_numbered c a) s.args)) action_param_row f.item.params
            (all_from (λ p. IsGiven (map (argument_numbered c a) s.args) (action_param_row p)) f.item.params (λ p p_at. given_by s p (ok.arguments_are_complete s b.0 f.item request p p_at)));
      } in
      subst (λ r. IsSomeAnd r (ArgumentsFit own given (map (argument_numbered c a) s.args))) (sym says) fits

  -- ---- sets

  -- what a set may come to have, by the number of its name
  pub may_there : (x : List ℕ) (g : DeclaresSet file x) → may_at d (number n.groups x)
      ≡ map (number n.objects) (objects_meant file true x)
  may_there x g =
      ap (λ y. may_at d (number n.groups y)) (sym g.2)
      ∙ ap (λ gs. option_map_or may_of_group (slice_get gs (number n.groups g.0.name)) []) is.groups
      ∙ ap (λ r. option_map_or may_of_group r [])
      (got_map (group_row file n) (groups_in file) (number n.groups g.0.name)
      ∙ ap (option_map (group_row file n)) (stands_there group_name (groups_in file) g.0 (groups_apart file d is ok)
      (contains_all group_list file (group g.0) g.0 g.1 (contains_here g.0 []))))
      ∙ ap (λ y. map (number n.objects) (objects_meant file true y)) g.2

  pub object_within : (x : List ℕ) → DeclaresObject file x → number n.objects x < length d.objects
  object_within x o = subst (λ k. number n.objects x < k) (object_count file d is ok) (number_within n.objects x (object_number file x o))

  pub group_within : (x : List ℕ) → DeclaresSet file x → number n.groups x < length d.groups
  group_within x g = subst (λ k. number n.groups x < k) (group_count file d is ok) (number_within n.groups x (group_number file x g))

  send_fits : (s : SendData) → HasSite file c a (asks s) → (all : Bool) → s.all ≡ all → Declares file all s.target →
      SendFits d own given (number n.actions s.action) (map (argument_numbered c a) s.args) (target_numbered n all s.target)
  send_fits s site false e o = (object_within s.target o, request_fits s site s.target (subst (λ b. SpeaksOf file b s.target s.target) (sym e) refl) o)
  send_fits s site true e g = (
    group_within s.target g,
    subst (All (RequestFits d own given (number n.actions s.action) (map (argument_numbered c a) s.args)))
        (sym (may_there s.target g))
        (All-map (RequestFits d own given (number n.actions s.action) (map (argument_numbered c a) s.args)) (number n.objects)
        (objects_meant file true s.target)
        (all_from (λ t. RequestFits d own given (number n.actions s.action) (map (argument_numbered c a) s.args)
        (number n.objects t)) (objects_meant file true s.target)
        (λ t t_at. let spoken_of = spoken file true s.target t t_at in request_fits s site t
        (subst (λ b. SpeaksOf file b s.target t) (sym e) spoken_of)
        (may_declared file ok s.target t spoken_of)))),
  )

  -- a request whose action has a number
  pub do_fits : (s : SendData) → HasSite file c a (asks s) → NameHasNumber n.actions s.action →
      DoFits d own given (number n.actions s.action) (map (argument_numbered c a) s.args) (target_numbered n s.all s.target)
  do_fits s site numbered = record {
    known = subst (λ names. number n.actions s.action < length names) (sym is.actions) (number_within n.actions s.action numbered);
    apart = arguments_apart s site;
    kinds = arguments_have_kinds s site;
    targets = send_fits s site s.all refl (ok.targets_are_declared c a s site);
  }
