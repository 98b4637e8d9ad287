-- What is in a list and in a file.
use Rattle.std.specs.Prelude.{◌≡◌, ◌⊎◌, ℕ, Bool, true, false, List, ◌∷◌, ◌++◌}
use Rattle.std.specs.List.{Contains}
use Rattle.sml_tree.specs.Syntax.{ItemData, class, object, group, ClassData, ObjectData, GroupData, StateData, ActionData, SendData}
use Rattle.sml_check_faults.specs.Sites.{Site, asks, changes, block_sites}
use Rattle.sml_check_faults.specs.Lookup.{actions}

-- something is in a list before something
pub record StandsBefore {X : Type 0} (x y : X) (xs : List X) : Type 0 where
  pub before : List X
  pub between : List X
  pub after : List X
  pub is : xs ≡ before ++ x ∷ (between ++ y ∷ after)

-- a state of a class of a file
pub record HasState (file : List ItemData) (c : ClassData) (s : StateData) : Type 0 where
  pub class_in : Contains file (class c)
  pub state_in : Contains c.states s

-- an action of a class of a file
pub record HasAction (file : List ItemData) (c : ClassData) (a : ActionData) : Type 0 where
  pub class_in : Contains file (class c)
  pub action_in : Contains (actions c) a

-- a place in the block of an action of a class of a file
pub record HasSite (file : List ItemData) (c : ClassData) (a : ActionData) (site : Site) : Type 0 where
  pub class_in : Contains file (class c)
  pub action_in : Contains (actions c) a
  pub site_in : Contains (block_sites a.body) site

-- a file declares a class of this name
abbrev pub DeclaresClass : List ItemData → List ℕ → Type 0
DeclaresClass file n = (c : ClassData) × Contains file (class c) × (c.name ≡ n)

-- a file declares an object of this name
abbrev pub DeclaresObject : List ItemData → List ℕ → Type 0
DeclaresObject file n = (o : ObjectData) × Contains file (object o) × (o.name ≡ n)

-- a file declares a set of this name
abbrev pub DeclaresSet : List ItemData → List ℕ → Type 0
DeclaresSet file n = (g : GroupData) × Contains file (group g) × (g.name ≡ n)

-- a file declares what a name means: behind `all_in` or `any_in` a set, else an object
abbrev pub Declares : List ItemData → Bool → List ℕ → Type 0
Declares file false n = DeclaresObject file n
Declares file true n = DeclaresSet file n

-- an `insert` of a file puts this object, which is declared, into a set of this name
pub record IsInserted (file : List ItemData) (n o : List ℕ) : Type 0 where
  pub own_class : ClassData
  pub own_action : ActionData
  pub site : HasSite file own_class own_action (changes true o n)
  pub declared : DeclaresObject file o

-- an object that a name means: behind `all_in` or `any_in` one that the set may come to have, else the one named so
abbrev pub SpeaksOf : List ItemData → Bool → List ℕ → List ℕ → Type 0
SpeaksOf file false n o = o ≡ n
SpeaksOf file true n o = (g : GroupData) × Contains file (group g) × (g.name ≡ n)
    × (Contains g.members o ⊎ IsInserted file n o)

-- a file declares an object of this name, of this class
pub record IsOfClass (file : List ItemData) (n : List ℕ) (c : ClassData) : Type 0 where
  pub declared : ObjectData
  pub object_in : Contains file (object declared)
  pub object_name : declared.name ≡ n
  pub class_in : Contains file (class c)
  pub class_name : c.name ≡ declared.class

-- a `do` of a file that is sent to an object of this class
pub record SendsToClass (file : List ItemData) (s : SendData) (d : ClassData) : Type 0 where
  pub own_class : ClassData
  pub own_action : ActionData
  pub site : HasSite file own_class own_action (asks s)
  pub target : List ℕ
  pub is_target : SpeaksOf file s.all s.target target
  pub target_class : IsOfClass file target d

-- a `do` of a file, and an action of this class, to an object of which it is sent, that it asks for
pub record AsksFor (file : List ItemData) (s : SendData) (d : ClassData) (b : ActionData) : Type 0 where
  pub sends : SendsToClass file s d
  pub action_in : Contains (actions d) b
  pub action_name : b.name ≡ s.action
