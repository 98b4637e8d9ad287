-- What it means that nothing in a file has the name of another of its kind, in words of pairs.
use Rattle.std.specs.Prelude.{◌≡◌, ◌≢◌, ℕ, List, []}
use Rattle.std.specs.List.{Contains}
use Rattle.sml_tree.specs.Syntax.{ItemData, class, object, group, ClassData, ObjectData, GroupData, StateData, ActionData, ActionParamData, ClassParamData, PassedData, SendData}
use Rattle.sml_check_faults.specs.declared.kind.CheckKind.TheVariants.{Duplicate}
use Rattle.sml_check_faults.specs.Sites.{asks}
use Rattle.sml_check_faults.specs.Kinds.{faults_of}
use Rattle.sml_check_faults.specs.Inside.{StandsBefore, HasState, HasAction, HasSite}

-- no two classes have one name
abbrev pub ClassesDiffer : List ItemData → Type 0
ClassesDiffer file = (c d : ClassData) → StandsBefore (class c) (class d) file → c.name ≢ d.name

-- no two objects have one name
abbrev pub ObjectsDiffer : List ItemData → Type 0
ObjectsDiffer file = (o p : ObjectData) → StandsBefore (object o) (object p) file → o.name ≢ p.name

-- no two sets have one name
abbrev pub SetsDiffer : List ItemData → Type 0
SetsDiffer file = (g h : GroupData) → StandsBefore (group g) (group h) file → g.name ≢ h.name

-- no object is twice in a set
abbrev pub FileMembersDiffer : List ItemData → Type 0
FileMembersDiffer file = (g : GroupData) → Contains file (group g) → (n m : List ℕ) → StandsBefore n m g.members → n ≢ m

-- no two parameters of a class have one name
abbrev pub ClassParamsDiffer : List ItemData → Type 0
ClassParamsDiffer file =
    (c : ClassData) → Contains file (class c) → (p q : ClassParamData) → StandsBefore p q c.params → p.name ≢ q.name

-- no two states of a class have one name
abbrev pub StatesDiffer : List ItemData → Type 0
StatesDiffer file =
    (c : ClassData) → Contains file (class c) → (s t : StateData) → StandsBefore s t c.states → s.name ≢ t.name

-- no two actions of a state have one name
abbrev pub ActionsDiffer : List ItemData → Type 0
ActionsDiffer file = (c : ClassData) (s : StateData) → HasState file c s → (a b : ActionData) →
    StandsBefore a b s.actions → a.name ≢ b.name

-- no two parameters of an action have one name
abbrev pub ActionParamsDiffer : List ItemData → Type 0
ActionParamsDiffer file = (c : ClassData) (a : ActionData) → HasAction file c a → (p q : ActionParamData) →
    StandsBefore p q a.params → p.name ≢ q.name

-- no parameter of an action has the name of a parameter of its class
abbrev pub ParamsAreNew : List ItemData → Type 0
ParamsAreNew file = (c : ClassData) (a : ActionData) → HasAction file c a → (p : ClassParamData) → Contains c.params p →
    (q : ActionParamData) → Contains a.params q → p.name ≢ q.name

-- no two arguments of a `do` have one name
abbrev pub ArgumentsDiffer : List ItemData → Type 0
ArgumentsDiffer file = (c : ClassData) (a : ActionData) (s : SendData) → HasSite file c a (asks s) →
    (p q : PassedData) → StandsBefore p q s.args → p.name ≢ q.name

-- no two that are looked up by their names in one place have one name
pub record AreDifferent (file : List ItemData) : Type 0 where
  pub classes : ClassesDiffer file
  pub objects : ObjectsDiffer file
  pub sets : SetsDiffer file
  pub members : FileMembersDiffer file
  pub class_params : ClassParamsDiffer file
  pub states : StatesDiffer file
  pub actions : ActionsDiffer file
  pub action_params : ActionParamsDiffer file
  pub new_params : ParamsAreNew file
  pub arguments : ArgumentsDiffer file

-- a file without `Duplicate` has no such pair
abbrev pub NoPairs : Type 0
NoPairs = (file : List ItemData) → faults_of Duplicate file ≡ [] → AreDifferent file

-- a file with no such pair has no `Duplicate`
abbrev pub OnlyPairs : Type 0
OnlyPairs = (file : List ItemData) → AreDifferent file → faults_of Duplicate file ≡ []
