-- What holds of the states and values that a well-formed file names.
use Rattle.std.specs.Prelude.{◌≡◌, ◌≢◌, ◌⊎◌, ℕ, Bool, false, List, Some}
use Rattle.std.specs.List.{Contains}
use Rattle.sml_tree.specs.declared.file.Kind.{Kind}
use Rattle.sml_tree.specs.Syntax.{LiteralData, ArgData, lit, param, ItemData, class, ClassData, StateData, ActionData, ActionParamData, ClassParamData, PassedData, SendData, TestData}
use Rattle.sml_check_faults.specs.Sites.{asks, tests, sets, ends}
use Rattle.sml_check_faults.specs.Lookup.{dead_name, of_set}
use Rattle.sml_check_faults.specs.Faults.{literal_kind}
use Rattle.sml_check_faults.specs.Inside.{HasAction, HasSite, SpeaksOf, IsOfClass, AsksFor}

-- ---- states

-- a state that is neither marked as dead nor named so
abbrev pub IsAlive : StateData → Type 0
IsAlive s = (s.dead ≡ false) × (s.name ≢ dead_name)

-- a state of a class: one that it declares, or the one that is added if it declares no dead one
abbrev pub CanBeIn : ClassData → List ℕ → Type 0
CanBeIn c n = ((s : StateData) × Contains c.states s × (s.name ≡ n))
    ⊎ ((n ≡ dead_name) × ((s : StateData) → Contains c.states s → IsAlive s))

-- an object that a name means, of a class that has a state
pub record SomeCanBeIn (file : List ItemData) (set : Bool) (name n : List ℕ) : Type 0 where
  pub one : List ℕ
  pub is_spoken_of : SpeaksOf file set name one
  pub of : ClassData
  pub is_of_class : IsOfClass file one of
  pub can_be_in : CanBeIn of n

-- an action ends in a state of its class
abbrev pub EndsAreStates : List ItemData → Type 0
EndsAreStates file = (c : ClassData) (a : ActionData) (n : List ℕ) → HasSite file c a (ends n) → CanBeIn c n

-- if a test asks any object, each of its states is one that an object it asks can be in
abbrev pub TestsNameStates : List ItemData → Type 0
TestsNameStates file =
    (c : ClassData) (a : ActionData) (t : TestData) → HasSite file c a (tests t) → (o : List ℕ) →
    SpeaksOf file (of_set t.scope) t.name o
    → (n : List ℕ) → Contains t.states n → SomeCanBeIn file (of_set t.scope) t.name n

-- ---- values

-- a parameter of a class or of an action has this name and kind
abbrev pub IsParam : ClassData → ActionData → List ℕ → Kind → Type 0
IsParam c a n k = ((p : ClassParamData) × Contains c.params p × (p.name ≡ n) × (p.kind ≡ k))
    ⊎ ((p : ActionParamData) × Contains a.params p × (p.name ≡ n) × (p.kind ≡ k))

-- a value in an action of a class is of this kind
abbrev pub ArgHasKind : ClassData → ActionData → ArgData → Kind → Type 0
ArgHasKind c a (lit l) k = literal_kind l ≡ k
ArgHasKind c a (param n) k = IsParam c a n k

-- an argument of a `do` has a kind, even if the `do` is sent to none
abbrev pub FileArgumentsHaveKinds : List ItemData → Type 0
FileArgumentsHaveKinds file = (c : ClassData) (a : ActionData) (s : SendData) → HasSite file c a (asks s) →
    (q : PassedData) → Contains s.args q → (k : Kind) × ArgHasKind c a q.value k

-- an argument of a `do` names a parameter of the action that it asks for, and has its kind
abbrev pub FileArgumentsFit : List ItemData → Type 0
FileArgumentsFit file =
    (s : SendData) (d : ClassData) (b : ActionData) → (request : AsksFor file s d b) → (q : PassedData) →
    Contains s.args q
    → (p : ActionParamData) × Contains b.params p × (p.name ≡ q.name)
    × ArgHasKind request.sends.own_class request.sends.own_action q.value p.kind

-- a `set` names a parameter of the class, and its value has the kind of that
abbrev pub SetsFit : List ItemData → Type 0
SetsFit file = (c : ClassData) (a : ActionData) (n : List ℕ) (v : ArgData) → HasSite file c a (sets n v) →
    (p : ClassParamData) × Contains c.params p × (p.name ≡ n) × ArgHasKind c a v p.kind

-- the value of a parameter of a class has its kind
abbrev pub ClassDefaultsFit : List ItemData → Type 0
ClassDefaultsFit file = (c : ClassData) → Contains file (class c) → (p : ClassParamData) → Contains c.params p →
    literal_kind p.value ≡ p.kind

-- the default of a parameter of an action has its kind
abbrev pub ActionDefaultsFit : List ItemData → Type 0
ActionDefaultsFit file = (c : ClassData) (a : ActionData) → HasAction file c a → (p : ActionParamData) →
    Contains a.params p → (l : LiteralData) → p.default ≡ Some l → literal_kind l ≡ p.kind
