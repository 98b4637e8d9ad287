-- The places of actions by their names.
use Rattle.std.proofs.Common.{◌≡◌, ◌∙◌, sym, ap, refl, ℕ, zero, suc, ◌<◌, ◌+◌, Bool, true, false, List, [], ◌∷◌, ◌++◌, length, get_or, map, flat_map, take, Option, None, Some, option_map, is_some, if◌then◌else◌, cond, arith}
use Rattle.std.proofs.lemmas.List.{take_more, map-append, length-map, length-take-le}
use Rattle.std.specs.List.{find, slice_get, AllZip}
use Rattle.std.specs.Option.{option_and_then, option_map_or}
use Rattle.indexmap.specs.IndexMap.{IndexMap}
use Rattle.sml_tree.specs.Syntax.{ItemData, class, object, group, ClassData, StateData, ActionData}
use Rattle.sml_check_faults.specs.declared.actions.ActionPlace.{ActionPlace}
use Rattle.sml_check_faults.specs.Lookup.{is_action_named, actions_of, action_in_class}
use Rattle.sml_check_faults.specs.Tables.{place_of, first_or_else, in_state, next_state, action_place, action_there, HasActionsOf, ActionTables, class_item, file_class_at, states_in, given}
use Rattle.sml_check_faults.proofs.Finds.{find_parts}
use Rattle.sml_check_faults.proofs.Places.{place_push}

head : {X : Type 0} (x : X) (xs : List X) (b : Bool) (o : Option ℕ) (found : Option X) → option_and_then (slice_get xs) o ≡ found →
    option_and_then (slice_get (x ∷ xs)) (if b then Some 0 else option_map suc o) ≡ cond b (Some x) found
head x xs true o found e = refl
head x xs false None found e = e
head x xs false (Some k) found e = e

-- what is at the first place at which a test passes is the first that passes it
first_there : {X : Type 0} (p : X → Bool) (xs : List X) → option_and_then (slice_get xs) (place_of p xs) ≡ find p xs
first_there p [] = refl
first_there p (x ∷ xs) = head x xs (p x) (place_of p xs) (find p xs) (first_there p xs)

both_some : {X : Type 0} (x : X) (b : Bool) (o : Option ℕ) (found : Option X) → is_some o ≡ is_some found → is_some (if b then Some 0 else option_map suc o) ≡ is_some (cond b (Some x) found)
both_some x true o found e = refl
both_some x false None found e = e
both_some x false (Some k) found e = e

-- there is a place where there is something
some_place : {X : Type 0} (p : X → Bool) (xs : List X) → is_some (place_of p xs) ≡ is_some (find p xs)
some_place p [] = refl
some_place p (x ∷ xs) = both_some x (p x) (place_of p xs) (find p xs) (some_place p xs)

in_next : (s : StateData) (ss : List StateData) (o : Option ActionPlace) → option_and_then (action_there (s ∷ ss)) (option_map next_state o) ≡ option_and_then (action_there ss) o
in_next s ss None = refl
in_next s ss (Some p) = refl

in_first : (s : StateData) (ss : List StateData) (o : Option ℕ) (found rest : Option ActionData) (more : Option ActionPlace) →
    option_and_then (slice_get s.actions) o ≡ found → is_some o ≡ is_some found → option_and_then (action_there ss) more ≡ rest →
    option_and_then (action_there (s ∷ ss)) (first_or_else (option_map (in_state 0) o) (option_map next_state more)) ≡ first_or_else found rest
in_first s ss None None rest more e same f = in_next s ss more ∙ f
in_first s ss None (Some a) rest more e same f = cc
in_first s ss (Some k) None rest more e same f = cc
in_first s ss (Some k) (Some a) rest more e same f = e

-- the action at the place of a name is the first of that name
pub action_found : (q : List ℕ) (ss : List StateData) → option_and_then (action_there ss) (action_place q ss) ≡ find (is_action_named q) (flat_map actions_of ss)
action_found q [] = refl
action_found q (s ∷ ss) =
    in_first s ss (place_of (is_action_named q) s.actions) (find (is_action_named q) s.actions) (find (is_action_named q) (flat_map actions_of ss)) (action_place q ss)
    (first_there (is_action_named q) s.actions) (some_place (is_action_named q) s.actions) (action_found q ss)
    ∙ sym (find_parts (is_action_named q) s.actions (flat_map actions_of ss))

-- ---- one more

or_else_all : {X Y : Type 0} (f : X → Y) (a : Option Y) (b : Option X) (c : Option X) → first_or_else (first_or_else a (option_map f b)) (option_map f c) ≡ first_or_else a (option_map f (first_or_else b c))
or_else_all f None None c = refl
or_else_all f None (Some x) c = refl
or_else_all f (Some y) b c = refl

placed_if : {X Y : Type 0} (f : X → Y) (b : Bool) (x : X) → (if b then Some (f x) else None) ≡ option_map f (if b then Some x else None)
placed_if f true x = refl
placed_if f false x = refl

-- one action more in a table
pub action_noted : {X : Type 0} (f : X → ActionData) (state : ℕ) (xs : List X) (i : ℕ) (x : X) (q : List ℕ) (old was now : Option ActionPlace) → i < length xs → x ≡ get_or xs i x →
    was ≡ first_or_else old (option_map (in_state state) (place_of (is_action_named q) (map f (take i xs)))) →
    now ≡ first_or_else was (if is_action_named q (f x) then Some (in_state state i) else None) →
    now ≡ first_or_else old (option_map (in_state state) (place_of (is_action_named q) (map f (take (i + 1) xs))))
action_noted f state xs i x q old was now within is so_far noted =
    let p = is_action_named q in
    let n : length (map f (take i xs)) ≡ i = length-map (take i xs) f ∙ length-take-le i xs (omega arith) in
    let all : map f (take (i + 1) xs) ≡ map f (take i xs) ++ f x ∷ [] =
    ap (map f) (take_more xs i x within) ∙ map-append f (take i xs) (get_or xs i x ∷ []) ∙ ap (λ y. map f (take i xs) ++ f y ∷ []) (sym is) in
    noted ∙ ap (λ o. first_or_else o (if p (f x) then Some (in_state state i) else None)) so_far
    ∙ ap (first_or_else (first_or_else old (option_map (in_state state) (place_of p (map f (take i xs)))))) (placed_if (in_state state) (p (f x)) i)
    ∙ or_else_all (in_state state) old (place_of p (map f (take i xs))) (if p (f x) then Some i else None)
    ∙ ap (λ k. first_or_else old (option_map (in_state state) (first_or_else (place_of p (map f (take i xs))) (if p (f x) then Some k else None)))) (sym n)
    ∙ sym (ap (λ ys. first_or_else old (option_map (in_state state) (place_of p ys))) all ∙ ap (λ o. first_or_else old (option_map (in_state state) o)) (place_push p (map f (take i xs)) (f x)))

one_later : (a : Option ℕ) (b : Option ActionPlace) (n : ℕ) (c : Option ℕ) →
    first_or_else (option_map (in_state 0) a) (option_map next_state (first_or_else b (option_map (in_state n) c))) ≡ first_or_else (first_or_else (option_map (in_state 0) a) (option_map next_state b)) (option_map (in_state (suc n)) c)
one_later (Some k) b n c = refl
one_later None (Some p) n c = refl
one_later None None n None = refl
one_later None None n (Some k) = refl

state_push : (q : List ℕ) (ss : List StateData) (s : StateData) → action_place q (ss ++ s ∷ []) ≡ first_or_else (action_place q ss) (option_map (in_state (length ss)) (place_of (is_action_named q) s.actions))
state_push q [] s = alone (place_of (is_action_named q) s.actions)
  where
    alone : (o : Option ℕ) → first_or_else (option_map (in_state 0) o) None ≡ option_map (in_state 0) o
    alone None = refl
    alone (Some k) = refl
state_push q (t ∷ ss) s =
    ap (λ o. first_or_else (option_map (in_state 0) (place_of (is_action_named q) t.actions)) (option_map next_state o)) (state_push q ss s)
    ∙ one_later (place_of (is_action_named q) t.actions) (action_place q ss) (length ss) (place_of (is_action_named q) s.actions)

-- the actions of one state more
pub state_noted : {X : Type 0} (f : X → StateData) (xs : List X) (i : ℕ) (x : X) (q : List ℕ) (was now : Option ActionPlace) → i < length xs → x ≡ get_or xs i x →
    was ≡ action_place q (map f (take i xs)) →
    now ≡ first_or_else was (option_map (in_state i) (place_of (is_action_named q) (f x).actions)) →
    now ≡ action_place q (map f (take (i + 1) xs))
state_noted f xs i x q was now within is so_far noted =
    let n : length (map f (take i xs)) ≡ i = length-map (take i xs) f ∙ length-take-le i xs (omega arith) in
    let all : map f (take (i + 1) xs) ≡ map f (take i xs) ++ f x ∷ [] =
    ap (map f) (take_more xs i x within) ∙ map-append f (take i xs) (get_or xs i x ∷ []) ∙ ap (λ y. map f (take i xs) ++ f y ∷ []) (sym is) in
    noted ∙ ap (λ o. first_or_else o (option_map (in_state i) (place_of (is_action_named q) (f x).actions))) so_far
    ∙ ap (λ k. first_or_else (action_place q (map f (take i xs))) (option_map (in_state k) (place_of (is_action_named q) (f x).actions))) (sym n)
    ∙ sym (ap (action_place q) all ∙ state_push q (map f (take i xs)) (f x))

-- tables place by place are tables at each place
pub at_each : {S : Type 0} (items : List ItemData) (tables : List (IndexMap (List ℕ) ActionPlace S)) → AllZip HasActionsOf items tables → ActionTables items tables
at_each [] [] h k q = refl
at_each {S = S} [] (m ∷ ms) h k q = elim h [ ]
at_each {S = S} (x ∷ xs) [] h k q = elim h [ ]
at_each (x ∷ xs) (m ∷ ms) h zero q = h.0 q
at_each (x ∷ xs) (m ∷ ms) h (suc k) q = at_each xs ms h.1 k q

class_states : (items : List ItemData) (k : ℕ) (c : ClassData) (o : Option ItemData) → slice_get items k ≡ o → Some c ≡ option_and_then class_item o → option_map_or states_in o [] ≡ c.states
class_states items k c None e is = cc
class_states items k c (Some (class d)) e is = let same : d ≡ c = cc in ap (λ (x : ClassData). x.states) same
class_states items k c (Some (object o)) e is = cc
class_states items k c (Some (group o)) e is = cc

-- the table at the place of a class
pub declared_at : {S : Type 0} (items : List ItemData) (tables : List (IndexMap (List ℕ) ActionPlace S)) (k : ℕ) (o : Option (IndexMap (List ℕ) ActionPlace S)) (c : ClassData) (q : List ℕ) →
    ActionTables items tables → slice_get tables k ≡ o → Some c ≡ file_class_at items k → option_and_then (given q) o ≡ action_place q c.states
declared_at items tables k o c q all there is =
    sym (ap (option_and_then (given q)) there) ∙ all k q ∙ ap (action_place q) (class_states items k c (slice_get items k) refl is)

-- a class without a table has no actions
pub undeclared_at : {S : Type 0} (items : List ItemData) (tables : List (IndexMap (List ℕ) ActionPlace S)) (k : ℕ) (c : ClassData) (q : List ℕ) →
    ActionTables items tables → slice_get tables k ≡ None → Some c ≡ file_class_at items k → None ≡ action_in_class (file_class_at items k) q
undeclared_at items tables k c q all there is =
    ap (option_and_then (action_there c.states)) (declared_at items tables k None c q all there is) ∙ action_found q c.states ∙ ap (λ o. action_in_class o q) is
