-- A domain that begins as an outset says, and is otherwise as before.
use Rattle.std.specs.Prelude.{◌≡◌, ◌<◌, ℕ, List, [], Some, length, map, option_map, get_or}
use Rattle.sml_domain.specs.Domain.{Domain, Class}
use Rattle.sml_domain.specs.Lookups.{name_of_object, class_at, associated_at, initial_state, dead_state, is_state_of, block_at, params_at, class_params_at, members_at, may_at}
use Rattle.sml_domain.specs.Sound.{name_of_group}
use Rattle.sml_outset.specs.Outset.{Stand, Outset}

-- a class for one object, which begins so
abbrev pub class_standing : List ℕ → Class → Stand → Class
class_standing name c x = record {
  name = name;
  associated = c.associated;
  params = x.params;
  states = c.states;
  initial = x.state;
  dead = c.dead;
  signatures = c.signatures;
}

-- names, numbers, states, actions and blocks are as before, and so is what an object and a set may ever be
pub record IsAsBefore (d e : Domain) : Type 0 where
  pub objects : map name_of_object e.objects ≡ map name_of_object d.objects
  pub groups : map name_of_group e.groups ≡ map name_of_group d.groups
  pub states : e.states ≡ d.states
  pub actions : e.actions ≡ d.actions
  pub blocks : e.blocks ≡ d.blocks
  pub associated : (o : ℕ) → associated_at e o ≡ associated_at d o
  pub dead : (o : ℕ) → option_map dead_state (class_at e o) ≡ option_map dead_state (class_at d o)
  pub has : (o s : ℕ) → is_state_of e o s ≡ is_state_of d o s
  pub declares : (o s a : ℕ) → block_at e o s a ≡ block_at d o s a
  pub takes : (o a : ℕ) → params_at e o a ≡ params_at d o a
  pub may : (set : ℕ) → may_at e set ≡ may_at d set

-- the domain begins as an outset says
pub record BeginsFrom (x : Outset) (e : Domain) : Type 0 where
  pub initial : (o : ℕ) (s : Stand) → o < length e.objects →
      option_map initial_state (class_at e o) ≡ Some (get_or x.stands o s).state
  pub params : (o : ℕ) (s : Stand) → o < length e.objects → class_params_at e o ≡ (get_or x.stands o s).params
  pub members : (set : ℕ) → set < length e.groups → members_at e set ≡ get_or x.members set []

-- a domain begins as an outset says, and is otherwise as another one
pub record StandsAs (d : Domain) (x : Outset) (e : Domain) : Type 0 where
  pub before : IsAsBefore d e
  pub begins : BeginsFrom x e
