-- What is so of the names of a class's states, its initial and its dead one.
use Rattle.std.proofs.Common.{◌≡◌, ◌∙◌, sym, ap, refl, subst, ℕ, Bool, true, false, not, List, [], ◌∷◌, Option, None, Some, is_some, option_map}
use Rattle.std.specs.Prelude.{◌≢◌, find, IsSomeAnd}
use Rattle.std.proofs.Common.{inl, inr}
use Rattle.std.specs.List.{Contains, list_any}
use Rattle.sml_tree.specs.Syntax.{ClassData, StateData}
use Rattle.sml_check_faults.specs.Lookup.{first_item, named, dead_name, is_dead, adds_dead, is_state_named}
use Rattle.sml_check_faults.specs.Heads.{is_initial, is_marked_dead}
use Rattle.sml_check_faults.specs.ValueLaws.{CanBeIn, IsAlive}
use Rattle.sml_check_faults.proofs.Pairs.{any_there, none_of, none_from, both_false, not_named, same_names, found_any, contains_here}
use Rattle.sml_check_faults.proofs.Named.{found_is}
use Rattle.sml_check_build.specs.Numbers.{state_name}
use Rattle.sml_check_build.specs.Rows.{initial_name, last_name, name_or, name_or_else}

alive : (s : StateData) → IsAlive s → is_dead s ≡ false
alive s h = both_false s.dead (named dead_name s.name) h.0 (not_named s.name dead_name h.1)

-- what is so of the names of all states that a class declares, and of that of the added one
module _ (c : ClassData) (Q : List ℕ → Type 0) (declared : (s : StateData) → Contains c.states s → Q s.name) (added : adds_dead c ≡ true → Q dead_name) where
  -- a state in which an object can be
  pub can_be : (x : List ℕ) → CanBeIn c x → Q x
  can_be x (inl s) = subst Q s.2 (declared s.0 s.1)
  can_be x (inr h) = subst Q (sym h.0) (added (ap not (none_from is_dead c.states (λ s in_it. alive s (h.1 s in_it)))))

  of_first : (ss : List StateData) → (ss ≢ []) → ((s : StateData) → Contains ss s → Q s.name) → IsSomeAnd (option_map state_name (first_item ss)) Q
  of_first [] some each = absurd (some refl)
  of_first (s ∷ ss) some each = each s (contains_here s ss)

  of_initial : (c.states ≢ []) → (o : Option StateData) → find is_initial c.states ≡ o → IsSomeAnd (name_or_else (option_map state_name o) (option_map state_name (first_item c.states))) Q
  of_initial some None is = of_first c.states some declared
  of_initial some (Some s) is = declared s (found_is is_initial c.states s is).0

  -- the initial one
  pub initial_is : (c.states ≢ []) → IsSomeAnd (initial_name c) Q
  initial_is some = of_initial some (find is_initial c.states) refl

  -- the state `DEAD` of a class where none is marked
  unmarked : list_any is_marked_dead c.states ≡ false → (b : Bool) → list_any (is_state_named dead_name) c.states ≡ b → Q dead_name
  unmarked none true is = let s = any_there (is_state_named dead_name) c.states is in subst Q (sym (same_names dead_name s.0.name s.2)) (declared s.0 s.1)
  unmarked none false is =
      added (ap not (none_from is_dead c.states (λ s in_it. both_false s.dead (named dead_name s.name) (none_of is_marked_dead c.states s in_it none) (none_of (is_state_named dead_name) c.states s in_it is))))

  of_last : (o : Option StateData) → find is_marked_dead c.states ≡ o → Q (name_or (option_map state_name o) dead_name)
  of_last None is = unmarked (sym (found_any is_marked_dead c.states) ∙ ap is_some is) (list_any (is_state_named dead_name) c.states) refl
  of_last (Some s) is = declared s (found_is is_marked_dead c.states s is).0

  -- the dead one
  pub last_is : Q (last_name c)
  last_is = of_last (find is_marked_dead c.states) refl
