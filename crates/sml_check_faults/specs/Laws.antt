-- What holds of well-formed files, in the words of the language.
use Rattle.std.specs.Prelude.{◌≡◌, ◌≢◌, ◌⊎◌, ℕ, Bool, true, List, [], IsSome}
use Rattle.std.specs.List.{Contains}
use Rattle.std.specs.Bool.{Decides}
use Rattle.sml_tree.specs.Syntax.{ItemData, class, object, group, ClassData, ObjectData, GroupData, StateData, ActionData, ActionParamData, PassedData, SendData, TestData, done}
use Rattle.sml_check_faults.specs.Sites.{asks, tests, changes}
use Rattle.sml_check_faults.specs.Lookup.{actions, of_set}
use Rattle.sml_check_faults.specs.Heads.{same_params}
use Rattle.sml_check_faults.specs.Kinds.{IsWellFormed}
use Rattle.sml_check_faults.specs.Inside.{StandsBefore, HasAction, HasSite, DeclaresClass, DeclaresObject, DeclaresSet, Declares, SpeaksOf, IsOfClass, SendsToClass, AsksFor}

-- every well-formed file is so
abbrev pub OfWellFormed : (List ItemData → Type 0) → Type 0
OfWellFormed Is = (file : List ItemData) → IsWellFormed file → Is file

-- ---- what is declared

-- an object has a declared class
abbrev pub ObjectsHaveClasses : List ItemData → Type 0
ObjectsHaveClasses file = (o : ObjectData) → Contains file (object o) → DeclaresClass file o.class

-- a member of a set is a declared object
abbrev pub MembersAreObjects : List ItemData → Type 0
MembersAreObjects file =
    (g : GroupData) → Contains file (group g) → (n : List ℕ) → Contains g.members n → DeclaresObject file n

-- a `do` is sent to a declared object or set
abbrev pub TargetsAreDeclared : List ItemData → Type 0
TargetsAreDeclared file =
    (c : ClassData) (a : ActionData) (s : SendData) → HasSite file c a (asks s) → Declares file s.all s.target

-- a test asks, and a `wait` waits for, a declared object or set
abbrev pub TestsAreDeclared : List ItemData → Type 0
TestsAreDeclared file = (c : ClassData) (a : ActionData) (t : TestData) → HasSite file c a (tests t) →
    Declares file (of_set t.scope) t.name

-- an `insert` or a `remove` names a declared object and a declared set
abbrev pub ChangesAreDeclared : List ItemData → Type 0
ChangesAreDeclared file =
    (c : ClassData) (a : ActionData) (add : Bool) (member set : List ℕ) → HasSite file c a (changes add member set)
    → DeclaresObject file member × DeclaresSet file set

-- ---- requests

-- a `do` names an action that the class of each of its targets declares
abbrev pub TargetsHaveActions : List ItemData → Type 0
TargetsHaveActions file = (s : SendData) (d : ClassData) → SendsToClass file s d →
    (b : ActionData) × Contains (actions d) b × (b.name ≡ s.action)

-- a parameter has a default, or an argument of its name is passed
abbrev pub ParamIsGiven : List PassedData → ActionParamData → Type 0
ParamIsGiven args p = IsSome p.default ⊎ ((q : PassedData) × Contains args q × (q.name ≡ p.name))

-- each parameter of the action that a `do` asks for has a default or an argument, at each target and in each state
abbrev pub ArgumentsAreComplete : List ItemData → Type 0
ArgumentsAreComplete file = (s : SendData) (d : ClassData) (b : ActionData) → AsksFor file s d b →
    (p : ActionParamData) → Contains b.params p → ParamIsGiven s.args p

-- each argument of a `do` names a parameter of the action that it asks for, at each target and in each state
abbrev pub ArgumentsAreParams : List ItemData → Type 0
ArgumentsAreParams file = (s : SendData) (d : ClassData) (b : ActionData) → AsksFor file s d b → (q : PassedData) →
    Contains s.args q → (p : ActionParamData) × Contains b.params p × (p.name ≡ q.name)

-- ---- classes

-- a class has a state
abbrev pub ClassesHaveStates : List ItemData → Type 0
ClassesHaveStates file = (c : ClassData) → Contains file (class c) → c.states ≢ []

-- no two states of a class are marked as initial
abbrev pub OneIsInitial : List ItemData → Type 0
OneIsInitial file = (c : ClassData) → Contains file (class c) → (s t : StateData) → StandsBefore s t c.states →
    s.initial ≡ true → t.initial ≢ true

-- no two states of a class are marked as dead
abbrev pub OneIsDead : List ItemData → Type 0
OneIsDead file = (c : ClassData) → Contains file (class c) → (s t : StateData) → StandsBefore s t c.states →
    s.dead ≡ true → t.dead ≢ true

-- an action of an associated class has no instructions
abbrev pub AssociatedAreEmpty : List ItemData → Type 0
AssociatedAreEmpty file = (c : ClassData) (a : ActionData) → HasAction file c a → c.associated ≡ true → a.body ≡ done

-- no condition and no `wait` in a class can come to ask an object of that class
abbrev pub TestsAskOthers : List ItemData → Type 0
TestsAskOthers file =
    (c : ClassData) (a : ActionData) (t : TestData) → HasSite file c a (tests t) → (n : List ℕ) →
    SpeaksOf file (of_set t.scope) t.name n → (d : ClassData) → IsOfClass file n d → d.name ≢ c.name

-- two actions of one class with one name have the same parameters
abbrev pub ParamsAgree : List ItemData → Type 0
ParamsAgree file = (c : ClassData) (a b : ActionData) → HasAction file c a → HasAction file c b → a.name ≡ b.name →
    a.params ≡ b.params

-- two lists of parameters are the same exactly if they are found to be
abbrev pub SameParams : Type 0
SameParams = (ps qs : List ActionParamData) → Decides (same_params ps qs) (ps ≡ qs)
