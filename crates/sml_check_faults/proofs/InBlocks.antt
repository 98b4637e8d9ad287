-- A file whose blocks are not at fault has no fault of a kind that is in blocks alone.
use Rattle.std.proofs.Common.{◌≡◌, ◌∙◌, sym, ap, refl, ℕ, Bool, true, false, ◌||◌, ◌<◌, ◌+◌, List, [], ◌∷◌, ◌++◌, length, get_or, map, flat_map}
use Rattle.std.specs.List.{list_any}
use Rattle.std.proofs.lemmas.List.Folds.{list_any-append}
use Rattle.sml_tree.proofs.Blocks.{instr_content-If}
use Rattle.sml_tree.specs.Syntax.{ItemData, class, object, group, ClassData, ObjectData, GroupData, ActionData}
use Rattle.sml_check_faults.specs.declared.kind.CheckKind.{CheckKind}
use Rattle.sml_check_faults.specs.declared.kind.CheckKind.TheVariants.{Duplicate, NoState, TwoInitial, TwoDead, UnknownClass, UnknownObject, UnknownSet, UnknownState, UnknownAction, UnknownParam, KindMismatch, MissingArg, ParamsDiffer, SelfInCondition, AssociatedBody}
use Rattle.sml_check_faults.specs.Sites.{Site, asks, tests, sets, ends, changes, block_sites}
use Rattle.sml_check_faults.specs.Lookup.{actions, objects_meant, of_set}
use Rattle.sml_check_faults.specs.Kinds.{site_faults, action_head, action_faults, class_head, object_faults, group_faults, item_faults, faults_of, with_kind, all_faults}
use Rattle.sml_check_faults.specs.Faults.{unknown_set, states_of_none, unknown_end, unknown_action, unknown_passed, set_unknown_param, missing_at, own_object}
use Rattle.sml_check_faults.proofs.Rests.{Rest, here_of, more_of}
use Rattle.sml_check_faults.specs.InBlocks.{others, has_some, is_faulty_site, is_faulty_action, is_faulty_item, has_faulty_block}

pub ruleset anys = (list_any-append, instr_content-If)

none_there : (names : List (List ℕ)) → has_some names ≡ false → names ≡ []
none_there [] e = refl
none_there (n ∷ names) e = cc

left_false : (a b : Bool) → (a || b) ≡ false → a ≡ false
left_false true b e = e
left_false false b e = refl

right_false : (a b : Bool) → (a || b) ≡ false → b ≡ false
right_false true b e = cc
right_false false b e = e

-- what each of some things has, where none is at fault
none_of : {X Y : Type 0} (p : X → Bool) (f : X → List Y) (xs : List X) → ((x : X) → p x ≡ false → f x ≡ []) → list_any p xs ≡ false → flat_map f xs ≡ []
none_of p f [] each e = refl
none_of p f (x ∷ xs) each e = ap (λ ys. ys ++ flat_map f xs) (each x (left_false (p x) (list_any p xs) e)) ∙ none_of p f xs each (right_false (p x) (list_any p xs) e)

-- ---- loops that look for a place at fault

module _ {X : Type 0} (F : List X → Bool) (xs ys : List X) (k : ℕ) (r : Bool) (x : X) (own : Bool) (h : Rest F xs k r) (same : ys ≡ xs) (within : k < length ys) (is : x ≡ get_or ys k x) (splits : (zs : List X) → F (x ∷ zs) ≡ (own || F zs)) where
  pub any_here : own ≡ true → true ≡ r
  any_here found = here_of F xs ys k r x h same within is true (λ zs. splits zs ∙ ap (λ b. b || F zs) found)

  pub any_next : own ≡ false → Rest F xs (k + 1) r
  any_next none = more_of F xs ys k r x h same within is (λ zs. splits zs ∙ ap (λ b. b || F zs) none)

-- an instruction that names one thing
pub one_any : {X : Type 0} (p : X → Bool) (s : X) → list_any p (s ∷ []) ≡ p s
one_any p s = by (p s)
  where
    by : (b : Bool) → (b || false) ≡ b
    by true = refl
    by false = refl

early : (a b c : Bool) → true ≡ (a || b) → true ≡ (a || (b || c))
early true b c e = refl
early false true c e = refl
early false false c e = cc

late : (a b c : Bool) → false ≡ (a || b) → c ≡ (a || (b || c))
late true b c e = cc
late false true c e = cc
late false false c e = refl

-- whether the first of two, or the second, passes
pub first_so : (v a b : Bool) → v ≡ true → true ≡ a → v ≡ (a || b)
first_so v a b e so = e ∙ ap (λ x. x || b) so

pub second_so : (v a b : Bool) → v ≡ b → false ≡ a → v ≡ (a || b)
second_so v a b e not_so = e ∙ ap (λ x. x || b) not_so

-- the parts of an `if`
module _ {X : Type 0} (p : X → Bool) (cs xs bs : List X) (v : Bool) (two : v ≡ (list_any p cs || list_any p xs)) where
  three : list_any p (cs ++ (xs ++ bs)) ≡ (list_any p cs || (list_any p xs || list_any p bs))
  three = list_any-append p cs (xs ++ bs) ∙ ap (λ b. list_any p cs || b) (list_any-append p xs bs)

  pub any_early : v ≡ true → v ≡ list_any p (cs ++ (xs ++ bs))
  any_early here = here ∙ early (list_any p cs) (list_any p xs) (list_any p bs) (sym here ∙ two) ∙ sym three

  pub any_late : (r : Bool) → v ≡ false → r ≡ list_any p bs → r ≡ list_any p (cs ++ (xs ++ bs))
  any_late r none last = last ∙ late (list_any p cs) (list_any p xs) (list_any p bs) (sym none ∙ two) ∙ sym three

-- ---- files

-- of one kind
module _ (file : List ItemData) (k : CheckKind) (no_action : (c : ClassData) (a : ActionData) → action_head k c a ≡ []) (no_class : (c : ClassData) → class_head k c ≡ []) (no_object : (o : ObjectData) → object_faults k file o ≡ [])
    (no_group : (g : GroupData) → group_faults k file g ≡ []) (clean : (c : ClassData) (a : ActionData) (s : Site) → is_faulty_site file c a s ≡ false → site_faults k file c a s ≡ []) where
  action_clean : (c : ClassData) (a : ActionData) → is_faulty_action file c a ≡ false → action_faults k file c a ≡ []
  action_clean c a e = ap (λ ns. ns ++ flat_map (site_faults k file c a) (block_sites a.body)) (no_action c a) ∙ none_of (is_faulty_site file c a) (site_faults k file c a) (block_sites a.body) (clean c a) e

  item_clean : (i : ItemData) → is_faulty_item file i ≡ false → item_faults k file i ≡ []
  item_clean (class c) e = ap (λ ns. ns ++ flat_map (action_faults k file c) (actions c)) (no_class c) ∙ none_of (is_faulty_action file c) (action_faults k file c) (actions c) (action_clean c) e
  item_clean (object o) e = no_object o
  item_clean (group g) e = no_group g

  items_clean : has_faulty_block file ≡ false → flat_map (item_faults k file) file ≡ []
  items_clean e = none_of (is_faulty_item file) (item_faults k file) file item_clean e

module _ (file : List ItemData) where
  unknown_sets : (c : ClassData) (a : ActionData) (s : Site) → is_faulty_site file c a s ≡ false → site_faults UnknownSet file c a s ≡ []
  unknown_sets c a (asks s) e = none_there (unknown_set file s.all s.target) (left_false _ _ e)
  unknown_sets c a (tests t) e = none_there (unknown_set file (of_set t.scope) t.name) (left_false _ _ e)
  unknown_sets c a (sets n v) e = refl
  unknown_sets c a (ends s) e = refl
  unknown_sets c a (changes add m s) e = none_there (unknown_set file true s) e

  unknown_states : (c : ClassData) (a : ActionData) (s : Site) → is_faulty_site file c a s ≡ false → site_faults UnknownState file c a s ≡ []
  unknown_states c a (asks s) e = refl
  unknown_states c a (tests t) e = none_there (states_of_none file (objects_meant file (of_set t.scope) t.name) t.states) (left_false _ _ (right_false _ _ e))
  unknown_states c a (sets n v) e = refl
  unknown_states c a (ends s) e = none_there (unknown_end c s) e
  unknown_states c a (changes add m s) e = refl

  unknown_actions : (c : ClassData) (a : ActionData) (s : Site) → is_faulty_site file c a s ≡ false → site_faults UnknownAction file c a s ≡ []
  unknown_actions c a (asks s) e = none_there (unknown_action file s.action (objects_meant file s.all s.target)) (left_false _ _ (right_false _ _ e))
  unknown_actions c a (tests t) e = refl
  unknown_actions c a (sets n v) e = refl
  unknown_actions c a (ends s) e = refl
  unknown_actions c a (changes add m s) e = refl

  unknown_params : (c : ClassData) (a : ActionData) (s : Site) → is_faulty_site file c a s ≡ false → site_faults UnknownParam file c a s ≡ []
  unknown_params c a (asks s) e = none_there (flat_map (unknown_passed file s.action (objects_meant file s.all s.target) c a) s.args) (left_false _ _ (right_false _ _ (right_false _ _ e)))
  unknown_params c a (tests t) e = refl
  unknown_params c a (sets n v) e = none_there (set_unknown_param c a n v) e
  unknown_params c a (ends s) e = refl
  unknown_params c a (changes add m s) e = refl

  missing_args : (c : ClassData) (a : ActionData) (s : Site) → is_faulty_site file c a s ≡ false → site_faults MissingArg file c a s ≡ []
  missing_args c a (asks s) e =
      let objects = objects_meant file s.all s.target in
      none_there (flat_map (missing_at file s.action s.args) objects)
      (right_false (has_some (flat_map (unknown_passed file s.action objects c a) s.args)) _ (right_false (has_some (unknown_action file s.action objects)) _ (right_false (has_some (unknown_set file s.all s.target)) _ e)))
  missing_args c a (tests t) e = refl
  missing_args c a (sets n v) e = refl
  missing_args c a (ends s) e = refl
  missing_args c a (changes add m s) e = refl

  own_objects : (c : ClassData) (a : ActionData) (s : Site) → is_faulty_site file c a s ≡ false → site_faults SelfInCondition file c a s ≡ []
  own_objects c a (asks s) e = refl
  own_objects c a (tests t) e = none_there (flat_map (own_object file c) (objects_meant file (of_set t.scope) t.name)) (right_false _ _ (right_false _ _ e))
  own_objects c a (sets n v) e = refl
  own_objects c a (ends s) e = refl
  own_objects c a (changes add m s) e = refl

  abbrev none_of_kind : CheckKind → Type 0
  none_of_kind k = faults_of k file ≡ []

  abbrev of_kind : CheckKind → List (CheckKind × List ℕ)
  of_kind k = with_kind file k

  -- a kind without faults
  dropped : (k : CheckKind) (rest : List (CheckKind × List ℕ)) → none_of_kind k → of_kind k ++ rest ≡ rest
  dropped k rest none = ap (λ ns. map (λ n. (k, n)) ns ++ rest) none

  -- the other kinds have all faults
  pub others_suffice : has_faulty_block file ≡ false → flat_map (with_kind file) others ≡ all_faults file
  others_suffice e =
      let set : none_of_kind UnknownSet = items_clean file UnknownSet (λ c a. refl) (λ c. refl) (λ o. refl) (λ g. refl) unknown_sets e in
      let state : none_of_kind UnknownState = items_clean file UnknownState (λ c a. refl) (λ c. refl) (λ o. refl) (λ g. refl) unknown_states e in
      let action : none_of_kind UnknownAction = items_clean file UnknownAction (λ c a. refl) (λ c. refl) (λ o. refl) (λ g. refl) unknown_actions e in
      let param : none_of_kind UnknownParam = items_clean file UnknownParam (λ c a. refl) (λ c. refl) (λ o. refl) (λ g. refl) unknown_params e in
      let arg : none_of_kind MissingArg = items_clean file MissingArg (λ c a. refl) (λ c. refl) (λ o. refl) (λ g. refl) missing_args e in
      let own : none_of_kind SelfInCondition = items_clean file SelfInCondition (λ c a. refl) (λ c. refl) (λ o. refl) (λ g. refl) own_objects e in
      let last = of_kind AssociatedBody ++ [] in
      let late = dropped MissingArg (of_kind ParamsDiffer ++ (of_kind SelfInCondition ++ last)) arg ∙ ap (λ r. of_kind ParamsDiffer ++ r) (dropped SelfInCondition last own) in
      let rest = of_kind KindMismatch ++ (of_kind MissingArg ++ (of_kind ParamsDiffer ++ (of_kind SelfInCondition ++ last))) in
      let middle =
      dropped UnknownSet (of_kind UnknownState ++ (of_kind UnknownAction ++ (of_kind UnknownParam ++ rest))) set ∙ dropped UnknownState (of_kind UnknownAction ++ (of_kind UnknownParam ++ rest)) state
      ∙ dropped UnknownAction (of_kind UnknownParam ++ rest) action ∙ dropped UnknownParam rest param ∙ ap (λ r. of_kind KindMismatch ++ r) late in
      sym (ap (λ r. of_kind Duplicate ++ (of_kind NoState ++ (of_kind TwoInitial ++ (of_kind TwoDead ++ (of_kind UnknownClass ++ (of_kind UnknownObject ++ r)))))) middle)
