-- The actions of a class that are gathered one after another are those of its distinct names.
use Rattle.std.proofs.Common.{◌≡◌, ◌∙◌, sym, ap, refl, ℕ, suc, Bool, true, false, List, [], ◌∷◌, ◌++◌, map, Option, None, Some, is_some, cond, ◌||◌, append_assoc, append-nil, arith, if◌then◌else◌}
use Rattle.std.specs.Prelude.{find}
use Rattle.std.specs.List.{Contains, list_any, position}
use Rattle.std.proofs.lemmas.List.{map-append}
use Rattle.sml_tree.specs.Syntax.{ClassData, ActionData}
use Rattle.sml_check_faults.specs.Lookup.{is_action_named, actions}
use Rattle.sml_check_faults.specs.Tables.{first_or_else}
use Rattle.sml_check_faults.proofs.Pairs.{named_same}
use Rattle.sml_domain.specs.Domain.{Signature}
use Rattle.sml_domain.specs.Names.{same_name, distinct, distinct_more}
use Rattle.sml_check_build.specs.Numbers.{Names, action_name, number}
use Rattle.sml_check_build.specs.Rows.{params_where, signature_rows}
use Rattle.sml_check_build.specs.Signed.{Signed, nothing_signed, own_signature, with_new, with_action, with_actions}
use Rattle.sml_check_build.proofs.Foldings.{more_named}
use Rattle.sml_check_build.proofs.Founds.{find-append}
use Rattle.sml_check_build.proofs.Numbered.{placed_any, any_name, distinct_any}

-- ---- what a test finds

found_any : {X : Type 0} (p : X → Bool) (xs : List X) → is_some (find p xs) ≡ list_any p xs
found_any p [] = refl
found_any {X} p (x ∷ xs) = by (p x) (found_any p xs)
  where
    by : (b : Bool) → is_some (find p xs) ≡ list_any p xs → is_some (cond b (Some x) (find p xs)) ≡ (b || list_any p xs)
    by true e = refl
    by false e = e

any_action : (x : List ℕ) (actions : List ActionData) → list_any (is_action_named x) actions ≡ list_any (same_name x) (map action_name actions)
any_action x [] = refl
any_action x (a ∷ actions) = ap (λ b. same_name x a.name || b) (any_action x actions)

-- an action of this name is found, exactly if the name came
found_named : (x : List ℕ) (actions : List ActionData) → is_some (find (is_action_named x) actions) ≡ list_any (same_name x) (distinct (map action_name actions))
found_named x actions = found_any (is_action_named x) actions ∙ any_action x actions ∙ sym (distinct_any x (map action_name actions))

or_else_some : {X : Type 0} (o r : Option X) → is_some o ≡ true → first_or_else o r ≡ o
or_else_some None r e = cc
or_else_some (Some x) r e = refl

or_else_none : {X : Type 0} (o r : Option X) → is_some o ≡ false → first_or_else o r ≡ r
or_else_none None r e = refl
or_else_none (Some x) r e = cc

-- ---- rows

-- the action of a name, as the first of some that has it
abbrev pub row_among : Names → List ActionData → List ℕ → Signature
row_among n actions x = record { action = number n.actions x; params = params_where (find (is_action_named x) actions) }

-- what some actions come to
abbrev pub signed_of : Names → List ActionData → Signed
signed_of n actions = record { declared = distinct (map action_name actions); rows = map (row_among n actions) (distinct (map action_name actions)) }

map_same : {X Y : Type 0} (f g : X → Y) (xs : List X) → ((x : X) → Contains xs x → f x ≡ g x) → map f xs ≡ map g xs
map_same f g [] each = refl
map_same f g (x ∷ xs) each =
    ap (λ y. y ∷ map f xs) (each x (0, omega arith, refl)) ∙ ap (λ ys. g x ∷ ys) (map_same f g xs (λ y at. each y (suc at.0, omega arith, at.2)))

module _ (n : Names) (before : List ActionData) (a : ActionData) where
  abbrev seen : List (List ℕ)
  seen = distinct (map action_name before)

  abbrev after : List ActionData
  after = before ++ a ∷ []

  names_after : distinct (map action_name after) ≡ distinct_more seen a.name
  names_after = more_named action_name [] before (a ∷ [])

  -- a name that came has the row that it had
  row_stays : (x : List ℕ) → Contains seen x → row_among n after x ≡ row_among n before x
  row_stays x at =
      ap (λ o. record { action = number n.actions x; params = params_where o })
      (find-append (is_action_named x) before (a ∷ []) ∙ or_else_some (find (is_action_named x) before) (find (is_action_named x) (a ∷ [])) (found_named x before ∙ any_name seen x at))

  rows_stay : map (row_among n after) seen ≡ map (row_among n before) seen
  rows_stay = map_same (row_among n after) (row_among n before) seen row_stays

  -- a new one has that of its action
  found_alone : find (is_action_named a.name) (a ∷ []) ≡ Some a
  found_alone = ap (λ b. cond b (Some a) None) (named_same a.name a.name refl)

  new_row : list_any (same_name a.name) seen ≡ false → row_among n after a.name ≡ own_signature n a
  new_row none =
      ap (λ o. record { action = number n.actions a.name; params = params_where o })
      (find-append (is_action_named a.name) before (a ∷ []) ∙ or_else_none (find (is_action_named a.name) before) (find (is_action_named a.name) (a ∷ [])) (found_named a.name before ∙ none) ∙ found_alone)

  pub one_more : with_action n (signed_of n before) a ≡ signed_of n after
  one_more = by (list_any (same_name a.name) seen) refl
    where
      whole : (names : List (List ℕ)) (rows : List Signature) → distinct (map action_name after) ≡ names → map (row_among n after) names ≡ rows → record { declared = names; rows = rows } ≡ signed_of n after
      whole names rows same said = ap (λ r. record { declared = names; rows = r }) (sym said) ∙ ap (λ ns. record { declared = ns; rows = map (row_among n after) ns }) (sym same)

      by : (b : Bool) → list_any (same_name a.name) seen ≡ b → (if b then signed_of n before else with_new n (signed_of n before) a) ≡ signed_of n after
      by true is = whole seen (map (row_among n before) seen) (names_after ∙ ap (λ c. if c then seen else seen ++ a.name ∷ []) is) rows_stay
      by false is =
          whole (seen ++ a.name ∷ []) (map (row_among n before) seen ++ own_signature n a ∷ []) (names_after ∙ ap (λ c. if c then seen else seen ++ a.name ∷ []) is)
          (map-append (row_among n after) seen (a.name ∷ []) ∙ ap (λ r. r ++ row_among n after a.name ∷ []) rows_stay ∙ ap (λ r. map (row_among n before) seen ++ r ∷ []) (new_row is))

signed_more : (n : Names) (before rest : List ActionData) → with_actions n (signed_of n before) rest ≡ signed_of n (before ++ rest)
signed_more n before [] = ap (signed_of n) (sym (append-nil before))
signed_more n before (a ∷ rest) =
    ap (λ s. with_actions n s rest) (one_more n before a) ∙ signed_more n (before ++ a ∷ []) rest ∙ ap (signed_of n) (append_assoc before (a ∷ []) rest)

-- all that are gathered
pub all_signed : (n : Names) (actions : List ActionData) → with_actions n nothing_signed actions ≡ signed_of n actions
all_signed n actions = signed_more n [] actions

-- ---- what is done with one action

-- one whose name came changes nothing
pub stays : (n : Names) (s : Signed) (a : ActionData) → is_some (position (same_name a.name) s.declared) ≡ true → s ≡ with_action n s a
stays n s a there = sym (ap (λ b. if b then s else with_new n s a) (sym (placed_any (same_name a.name) s.declared) ∙ there))

-- a new one comes behind the others
pub comes : (n : Names) (s : Signed) (a : ActionData) (names : List (List ℕ)) (rows : List Signature) → is_some (position (same_name a.name) s.declared) ≡ false →
    names ≡ distinct_more s.declared a.name → rows ≡ s.rows ++ own_signature n a ∷ [] → record { declared = names; rows = rows } ≡ with_action n s a
comes n s a names rows none named said =
    let fresh : list_any (same_name a.name) s.declared ≡ false = sym (placed_any (same_name a.name) s.declared) ∙ none in
    ap (λ ns. record { declared = ns; rows = rows }) (named ∙ ap (λ b. if b then s.declared else s.declared ++ a.name ∷ []) fresh) ∙ ap (λ rs. record { declared = s.declared ++ a.name ∷ []; rows = rs }) said
    ∙ sym (ap (λ b. if b then s else with_new n s a) fresh)

-- of all actions of a class
pub class_signed : (n : Names) (c : ClassData) → (with_actions n nothing_signed (actions c)).rows ≡ signature_rows n c
class_signed n c = ap (λ (s : Signed). s.rows) (all_signed n (actions c))
