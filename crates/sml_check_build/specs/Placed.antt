-- Names that have numbers.
use Rattle.std.specs.Prelude.{◌≡◌, ℕ, Bool, true, false, ◌||◌, List, Option, None, Some, is_some, map, All, IfSome, IsSomeAnd}
use Rattle.sml_tree.specs.declared.cond.Scope.{Scope}
use Rattle.sml_tree.specs.declared.cond.Scope.TheVariants.{One, All as AllOf, Any}
use Rattle.sml_domain.specs.Texts.{IsText}
use Rattle.sml_tree.specs.Syntax.{LiteralData, int, str, ArgData, lit, param, PassedData, CondData, both, either, neither, test, SendData, WaitedData, InstrData, send, choose, assign, move_to, terminate, wait_for, insert_in, remove_from, BlockData, done, step, ItemData, class, object, group, ClassData, StateData, ActionData, ClassParamData, ActionParamData}
use Rattle.sml_check_faults.specs.Lookup.{dead_name, adds_dead, objects_meant}
use Rattle.sml_domain.specs.Names.{AreDistinct}
use Rattle.sml_check_build.specs.Numbers.{Names, place, classes_in, objects_in, groups_in}
use Rattle.sml_check_build.specs.Rows.{initial_name, last_name}
use Rattle.sml_check_build.specs.Programs.{class_place, action_param_place}
use Rattle.sml_check_faults.specs.Tables.{class_name, object_name, group_name}

-- there is a place
abbrev pub IsThere : Option ℕ → Type 0
IsThere o = is_some o ≡ true

-- a name has a number
abbrev pub NameHasNumber : List (List ℕ) → List ℕ → Type 0
NameHasNumber names x = IsThere (place names x)

-- no two classes, objects or sets have one name
pub record NamesDiffer (file : List ItemData) : Type 0 where
  pub classes : AreDistinct (map class_name (classes_in file))
  pub objects : AreDistinct (map object_name (objects_in file))
  pub groups : AreDistinct (map group_name (groups_in file))

-- a string that is written out has the bytes of one
abbrev pub IsWritten : LiteralData → Type 0
IsWritten (int n) = Unit {0}
IsWritten (str bytes) = IsText bytes

-- a value that is written out, or a parameter of the class or of the action
abbrev pub ValuePlaced : ClassData → ActionData → ArgData → Type 0
ValuePlaced c a (lit l) = IsWritten l
ValuePlaced c a (param n) = is_some (class_place c n) || is_some (action_param_place a n) ≡ true

-- an argument with such a value
abbrev pub PassedPlaced : ClassData → ActionData → PassedData → Type 0
PassedPlaced c a p = ValuePlaced c a p.value

-- a name with or without `all_in` or `any_in` that has a number
abbrev pub TargetPlaced : Names → Bool → List ℕ → Type 0
TargetPlaced n false x = NameHasNumber n.objects x
TargetPlaced n true x = NameHasNumber n.groups x

-- a test whose object or set has a number
abbrev pub AskedPlaced : Names → Scope → List ℕ → Type 0
AskedPlaced n One x = NameHasNumber n.objects x
AskedPlaced n AllOf x = NameHasNumber n.groups x
AskedPlaced n Any x = NameHasNumber n.groups x

-- a condition of such tests
abbrev pub CondPlaced : Names → CondData → Type 0
CondPlaced n (both c d) = CondPlaced n c × CondPlaced n d
CondPlaced n (either c d) = CondPlaced n c × CondPlaced n d
CondPlaced n (neither c) = CondPlaced n c
CondPlaced n (test t) = AskedPlaced n t.scope t.name

-- what a `wait` waits for has a number
abbrev pub WaitedPlaced : Names → WaitedData → Type 0
WaitedPlaced n w = TargetPlaced n w.all w.name

-- the action has a number, or else the request is for a set
abbrev pub RequestPlaced : Names → ClassData → ActionData → SendData → Option ℕ → Type 0
RequestPlaced n c a s None = NameHasNumber n.groups s.target
RequestPlaced n c a s (Some k) = TargetPlaced n s.all s.target × All (PassedPlaced c a) s.args

abbrev mutual
  -- an instruction whose names have numbers
  pub InstrPlaced : Names → ClassData → ActionData → InstrData → Type 0
  InstrPlaced n c a (send s) = RequestPlaced n c a s (place n.actions s.action)
  InstrPlaced n c a (choose f yes_block no_block) =
      CondPlaced n f × (BlockPlaced n c a yes_block × BlockPlaced n c a no_block)
  InstrPlaced n c a (assign x v) = IsThere (class_place c x) × ValuePlaced c a v
  InstrPlaced n c a (move_to s) = NameHasNumber n.states s
  InstrPlaced n c a (terminate s) = NameHasNumber n.states s
  InstrPlaced n c a (wait_for ws) = All (WaitedPlaced n) ws
  InstrPlaced n c a (insert_in member set) = NameHasNumber n.objects member × NameHasNumber n.groups set
  InstrPlaced n c a (remove_from member set) = NameHasNumber n.objects member × NameHasNumber n.groups set

  -- a block of such instructions
  pub BlockPlaced : Names → ClassData → ActionData → BlockData → Type 0
  BlockPlaced n c a done = Unit {0}
  BlockPlaced n c a (step i rest) = InstrPlaced n c a i × BlockPlaced n c a rest

-- ---- classes, objects and sets

-- the value of a parameter of a class
abbrev pub ParamWritten : ClassParamData → Type 0
ParamWritten p = IsWritten p.value

-- the default of a parameter of an action, if it has one
abbrev pub DefaultWritten : ActionParamData → Type 0
DefaultWritten p = IfSome p.default IsWritten

-- the defaults of the parameters of an action
abbrev pub DefaultsWritten : ActionData → Type 0
DefaultsWritten a = All DefaultWritten a.params

-- an action with a number, whose block's names have numbers
pub record ActionPlaced (n : Names) (c : ClassData) (a : ActionData) : Type 0 where
  pub name : NameHasNumber n.actions a.name
  pub block : BlockPlaced n c a a.body

-- a state with such actions
pub record StatePlaced (n : Names) (c : ClassData) (s : StateData) : Type 0 where
  pub name : NameHasNumber n.states s.name
  pub actions : All (ActionPlaced n c) s.actions

-- an action with a number, and the defaults of its parameters
pub record SignaturePlaced (n : Names) (a : ActionData) : Type 0 where
  pub name : NameHasNumber n.actions a.name
  pub defaults : DefaultsWritten a

-- a state with such actions
abbrev pub StateSigned : Names → StateData → Type 0
StateSigned n s = All (SignaturePlaced n) s.actions

-- an added state with a number
abbrev pub AddedPlaced : Names → Bool → Type 0
AddedPlaced n false = Unit {0}
AddedPlaced n true = NameHasNumber n.states dead_name

-- a class whose names have numbers
pub record ClassPlaced (n : Names) (c : ClassData) : Type 0 where
  pub params : All ParamWritten c.params
  pub states : All (StatePlaced n c) c.states
  pub added : AddedPlaced n (adds_dead c)
  pub initial : IsSomeAnd (initial_name c) (NameHasNumber n.states)
  pub dead : NameHasNumber n.states (last_name c)
  pub signatures : All (StateSigned n) c.states

-- an item whose names have numbers
abbrev pub ItemPlaced : Names → ItemData → Type 0
ItemPlaced n (class c) = ClassPlaced n c
ItemPlaced n (object o) = NameHasNumber n.classes o.class
ItemPlaced n (group g) = All (NameHasNumber n.objects) g.members

-- so are all items of a file
abbrev pub FilePlaced : Names → List ItemData → Type 0
FilePlaced n file = All (ItemPlaced n) file

-- all that a set may come to have has numbers
abbrev pub MayPlaced : Names → List ItemData → Type 0
MayPlaced n file = (set : List ℕ) → All (NameHasNumber n.objects) (objects_meant file true set)
