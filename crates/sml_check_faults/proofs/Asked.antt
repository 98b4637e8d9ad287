-- What a `do` of a well-formed file asks for.
use Rattle.std.proofs.Common.{◌≡◌, ◌∙◌, sym, ap, subst, refl, ℕ, Bool, true, false, not, ◌&&◌, List, Option, Some, None, is_some, inl, inr, arith}
use Rattle.std.specs.List.{Contains, list_any}
use Rattle.sml_tree.specs.Syntax.{LiteralData, ItemData, ClassData, ActionData, ActionParamData, PassedData, SendData}
use Rattle.sml_check_faults.specs.declared.kind.CheckKind.TheVariants.{UnknownAction, UnknownParam, MissingArg}
use Rattle.sml_check_faults.specs.Sites.{asks}
use Rattle.sml_check_faults.specs.Lookup.{actions, is_action_named, is_passed, is_action_param, file_action_named, action_in_class, action_of, objects_meant}
use Rattle.sml_check_faults.specs.Faults.{lacks_action, lacks_param, lacks_param_there, unknown_passed, unknown_value, missing_param, missing_params, missing_at}
use Rattle.sml_check_faults.specs.Kinds.{IsWellFormed}
use Rattle.sml_check_faults.specs.Inside.{SendsToClass, AsksFor}
use Rattle.sml_check_faults.specs.Laws.{OfWellFormed, TargetsHaveActions, ParamIsGiven, ArgumentsAreComplete, ArgumentsAreParams}
use Rattle.sml_check_faults.proofs.Pairs.{left_nil, flat_nil, not_so, none_of, any_there, same_names}
use Rattle.sml_check_faults.proofs.Named.{meant, class_of_is, found}
use Rattle.sml_check_faults.proofs.Sound.{different, params_of_first}
use Rattle.sml_check_faults.proofs.WellFormed.{no_fault, not_not, at_site}

module _ (file : List ItemData) (ok : IsWellFormed file) (s : SendData) (d : ClassData) (sends : SendsToClass file s d) where
  pub target_in : Contains (objects_meant file s.all s.target) sends.target
  target_in = meant file (different file ok) s.all s.target sends.target sends.is_target

  action_there : (n : List ℕ) → action_of file n sends.target ≡ file_action_named d n
  action_there n = ap (λ o. action_in_class o n) (class_of_is file (different file ok) sends.target d sends.target_class)

pub targets_have_actions : OfWellFormed TargetsHaveActions
targets_have_actions file ok s d sends =
    let none = not_so _ s.action (at_site UnknownAction file (no_fault file ok UnknownAction (8, omega arith, refl)) sends.own_class sends.own_action (asks s) sends.site) in
    let has = not_not _ (none_of (lacks_action file s.action) _ sends.target (target_in file ok s d sends) none) in
    let f = found (is_action_named s.action) (actions d) (sym (ap (λ o. is_some o) (action_there file ok s d sends s.action)) ∙ has) in
    (f.item, f.at, sym (same_names s.action f.item.name f.passes))

-- the action that is looked up has the same parameters
pub asked : (file : List ItemData) → IsWellFormed file → (s : SendData) (d : ClassData) (b : ActionData) (at : AsksFor file s d b)
    → (f : ActionData) × (action_of file s.action at.sends.target ≡ Some f) × (f.params ≡ b.params)
asked file ok s d b at =
    let f = params_of_first file ok d b (record { class_in = at.sends.target_class.class_in; action_in = at.action_in }) in
    (f.0, action_there file ok s d at.sends s.action ∙ sym (ap (file_action_named d) at.action_name) ∙ f.1, f.2)

given : (args : List PassedData) (p : ActionParamData) → (not (is_some p.default) && not (list_any (is_passed p.name) args)) ≡ false → ParamIsGiven args p
given args p e = by p.default (list_any (is_passed p.name) args) refl refl e
  where
    by : (o : Option LiteralData) (b : Bool) → p.default ≡ o → list_any (is_passed p.name) args ≡ b → (not (is_some o) && not b) ≡ false → ParamIsGiven args p
    by (Some v) b default passed f = inl (ap (λ o. is_some o) default)
    by None false default passed f = cc
    by None true default passed f =
        let one = any_there (is_passed p.name) args passed in inr (one.0, one.1, sym (same_names p.name one.0.name one.2))

pub arguments_are_complete : OfWellFormed ArgumentsAreComplete
arguments_are_complete file ok s d b at p in_list =
    let f = asked file ok s d b at in
    let none = at_site MissingArg file (no_fault file ok MissingArg (11, omega arith, refl)) at.sends.own_class at.sends.own_action (asks s) at.sends.site in
    let complete = flat_nil (missing_at file s.action s.args) _ at.sends.target (target_in file ok s d at.sends) none in
    given s.args p
    (not_so _ p.name (flat_nil (missing_param s.args) f.0.params p (subst (λ ps. Contains ps p) (sym f.2) in_list) (sym (ap (missing_params s.args) f.1) ∙ complete)))

pub arguments_are_params : OfWellFormed ArgumentsAreParams
arguments_are_params file ok s d b at q in_args =
    let f = asked file ok s d b at in
    let c = at.sends.own_class in
    let a = at.sends.own_action in
    let objects = objects_meant file s.all s.target in
    let none = at_site UnknownParam file (no_fault file ok UnknownParam (9, omega arith, refl)) c a (asks s) at.sends.site in
    let here = left_nil _ (unknown_value c a q.value) (flat_nil (unknown_passed file s.action objects c a) s.args q in_args none) in
    let has = none_of (lacks_param_there file s.action q.name) objects at.sends.target (target_in file ok s d at.sends) (not_so _ q.name here) in
    let p = found (is_action_param q.name) f.0.params (not_not _ (sym (ap (lacks_param q.name) f.1) ∙ has)) in
    (p.item, subst (λ ps. Contains ps p.item) f.2 p.at, sym (same_names q.name p.item.name p.passes))
