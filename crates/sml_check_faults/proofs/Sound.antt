-- What a class of a well-formed file is.
use Rattle.std.proofs.Common.{◌≡◌, ◌∙◌, sym, ap, refl, Bool, true, false, ◌&&◌, List, [], ◌∷◌, ◌++◌, Some, cond, arith}
use Rattle.std.specs.Prelude.{◌≢◌}
use Rattle.std.specs.List.{Contains, list_any}
use Rattle.std.proofs.lemmas.Option.{same_Some}
use Rattle.sml_tree.specs.Syntax.{ItemData, class, ClassData, ActionData, BlockData, done, step}
use Rattle.sml_check_faults.specs.declared.kind.CheckKind.TheVariants.{Duplicate, NoState, TwoInitial, TwoDead, ParamsDiffer, SelfInCondition, AssociatedBody}
use Rattle.sml_check_faults.specs.Sites.{tests}
use Rattle.sml_check_faults.specs.Lookup.{actions, is_action_named, file_action_named, objects_meant, of_set}
use Rattle.sml_check_faults.specs.Faults.{own_object, is_of_class}
use Rattle.sml_check_faults.specs.Heads.{is_nil, has_two, is_initial, is_marked_dead, has_body, differs, same_params}
use Rattle.sml_check_faults.specs.Kinds.{IsWellFormed}
use Rattle.sml_check_faults.specs.Inside.{StandsBefore, HasAction}
use Rattle.sml_check_faults.specs.PairLaws.{AreDifferent}
use Rattle.sml_check_faults.specs.Laws.{OfWellFormed, ClassesHaveStates, OneIsInitial, OneIsDead, AssociatedAreEmpty, TestsAskOthers, ParamsAgree}
use Rattle.sml_check_faults.proofs.Pairs.{not_so, flat_nil, other_names, any_after, named_same, not_false}
use Rattle.sml_check_faults.proofs.NoPairs.{no_pairs}
use Rattle.sml_check_faults.proofs.Named.{meant, object_of_class, found_there}
use Rattle.sml_check_faults.proofs.SameParams.{params_agree}
use Rattle.sml_check_faults.proofs.WellFormed.{no_fault, not_not, at_head, at_action_head, at_site}

pub different : (file : List ItemData) → IsWellFormed file → AreDifferent file
different file ok = no_pairs file (no_fault file ok Duplicate (0, omega arith, refl))

pub classes_have_states : OfWellFormed ClassesHaveStates
classes_have_states file ok c at none =
    not_false (sym (ap is_nil none) ∙ not_so _ c.name (at_head NoState file (no_fault file ok NoState (1, omega arith, refl)) c at))

-- ---- two of a mark

two_in : {X : Type 0} (p : X → Bool) (bs : List X) (x : X) (ms : List X) (y : X) (cs : List X) → p x ≡ true → p y ≡ true → has_two p (bs ++ x ∷ (ms ++ y ∷ cs)) ≡ true
two_in p [] x ms y cs first second = ap (λ b. cond b (list_any p (ms ++ y ∷ cs)) (has_two p (ms ++ y ∷ cs))) first ∙ any_after p ms y cs second
two_in p (b ∷ bs) x ms y cs first second = by (p b) (any_after p bs x (ms ++ y ∷ cs) first) (two_in p bs x ms y cs first second)
  where
    by : (q : Bool) → list_any p (bs ++ x ∷ (ms ++ y ∷ cs)) ≡ true → has_two p (bs ++ x ∷ (ms ++ y ∷ cs)) ≡ true → cond q (list_any p (bs ++ x ∷ (ms ++ y ∷ cs))) (has_two p (bs ++ x ∷ (ms ++ y ∷ cs))) ≡ true
    by true here later = here
    by false here later = later

no_two : {X : Type 0} (p : X → Bool) (xs : List X) (x y : X) → StandsBefore x y xs → has_two p xs ≡ false → p x ≡ true → p y ≢ true
no_two p xs x y b none first second = not_false (sym (ap (has_two p) b.is ∙ two_in p b.before x b.between y b.after first second) ∙ none)

pub one_is_initial : OfWellFormed OneIsInitial
one_is_initial file ok c at s t b = no_two is_initial c.states s t b (not_so _ c.name (at_head TwoInitial file (no_fault file ok TwoInitial (2, omega arith, refl)) c at))

pub one_is_dead : OfWellFormed OneIsDead
one_is_dead file ok c at s t b = no_two is_marked_dead c.states s t b (not_so _ c.name (at_head TwoDead file (no_fault file ok TwoDead (3, omega arith, refl)) c at))

-- ---- actions

bodiless : (b : BlockData) → has_body b ≡ false → b ≡ done
bodiless done e = refl
bodiless (step i rest) e = cc

pub associated_are_empty : OfWellFormed AssociatedAreEmpty
associated_are_empty file ok c a at is =
    let none = not_so (c.associated && has_body a.body) a.name (at_action_head AssociatedBody file (no_fault file ok AssociatedBody (14, omega arith, refl)) c a at) in
    bodiless a.body (sym (ap (λ b. b && has_body a.body) is) ∙ none)

pub tests_ask_others : OfWellFormed TestsAskOthers
tests_ask_others file ok c a t at n speaks d of_class same =
    let none = at_site SelfInCondition file (no_fault file ok SelfInCondition (13, omega arith, refl)) c a (tests t) at in
    let here = flat_nil (own_object file c) (objects_meant file (of_set t.scope) t.name) n (meant file (different file ok) (of_set t.scope) t.name n speaks) none in
    let other = sym (ap (is_of_class c) (object_of_class file (different file ok) n d of_class)) ∙ not_so _ n here in
    other_names of_class.declared.class c.name other (sym of_class.class_name ∙ same)

-- an action has the parameters of the first of its name
first_params : (c : ClassData) (a : ActionData) → Contains (actions c) a → differs (file_action_named c a.name) a ≡ false
    → (f : ActionData) × (file_action_named c a.name ≡ Some f) × (f.params ≡ a.params)
first_params c a at none =
    let f = found_there (is_action_named a.name) (actions c) a at (named_same a.name a.name refl) in
    (f.item, f.is, params_agree f.item.params a.params (not_not (same_params f.item.params a.params) (sym (ap (λ o. differs o a) f.is) ∙ none)))

-- a test fails where it cannot pass
if_not_so : (b : Bool) → (b ≡ true → true ≡ false) → b ≡ false
if_not_so true not_so = not_so refl
if_not_so false not_so = refl

-- an action has the parameters of the one that is looked up
not_differing : (file : List ItemData) → IsWellFormed file → (c : ClassData) (a : ActionData) → HasAction file c a → differs (file_action_named c a.name) a ≡ false
not_differing file ok c a at =
    let in_class = flat_nil _ file (class c) at.class_in (no_fault file ok ParamsDiffer (12, omega arith, refl)) in
    let in_action = flat_nil _ (actions c) a at.action_in in_class in
    if_not_so (differs (file_action_named c a.name) a) (λ so. cc)

-- an action of a class has the parameters of the first of its name
pub params_of_first : (file : List ItemData) → IsWellFormed file → (c : ClassData) (a : ActionData) → HasAction file c a → (f : ActionData) × (file_action_named c a.name ≡ Some f) × (f.params ≡ a.params)
params_of_first file ok c a at = first_params c a at.action_in (not_differing file ok c a at)

pub params_of_both : OfWellFormed ParamsAgree
params_of_both file ok c a b at_a at_b same =
    let f = params_of_first file ok c a at_a in
    let g = params_of_first file ok c b at_b in
    let one = same_Some f.0 g.0 (sym f.1 ∙ ap (file_action_named c) same ∙ g.1) in
    sym f.2 ∙ ap (λ (h : ActionData). h.params) one ∙ g.2
