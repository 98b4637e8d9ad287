-- The laws of the domains of files.
use Rattle.std.specs.Prelude.{◌≡◌, ◌≢◌, ◌↔◌, ◌<◌, ℕ, suc, true, List, Option, Some, IsSomeAnd, length, is_some}
use Rattle.std.specs.List.{Contains}
use Rattle.sml_tree.specs.Syntax.{ItemData, class, CondData, ClassData, StateData, ActionData}
use Rattle.sml_check_faults.specs.Lookup.{dead_name, adds_dead}
use Rattle.sml_check_faults.specs.Inside.{HasState, HasAction}
use Rattle.sml_check_faults.specs.Laws.{MembersAreObjects}
use Rattle.sml_check_faults.specs.ValueLaws.{CanBeIn}
use Rattle.sml_check_faults.specs.Kinds.{IsWellFormed}
use Rattle.sml_domain.specs.Domain.{Domain}
use Rattle.sml_domain.specs.Lookups as says
use Rattle.sml_domain.specs.Truth.{holds_of}
use Rattle.sml_check_build.specs.Numbers.{names_of}
use Rattle.sml_check_build.specs.Programs.{formula_numbered}
use Rattle.sml_check_build.specs.Placed.{CondPlaced}
use Rattle.sml_check_build.specs.FileDomain.{IsDomainOf}
use Rattle.sml_check_build.specs.Truth.{holds_in, AreStateNames, by_names, IsCondOf}

-- ---- two domains of one file

-- two domains of one file are the same
abbrev pub FilesHaveOneDomain : Type 0
FilesHaveOneDomain = (file : List ItemData) (d e : Domain) → IsDomainOf file d → IsDomainOf file e → d ≡ e

-- ---- names with numbers

-- some class of a file has the state: it declares it, or it is the one that is added to it
abbrev pub IsStateOfSome : List ItemData → List ℕ → Type 0
IsStateOfSome file name = (c : ClassData) × Contains file (class c) × CanBeIn c name

-- some class of a file declares the action
abbrev pub IsActionOfSome : List ItemData → List ℕ → Type 0
IsActionOfSome file name = (c : ClassData) × (a : ActionData) × HasAction file c a × (a.name ≡ name)

-- a name has a number as a state exactly if some class has the state
abbrev pub StatesHaveNumbers : Type 0
StatesHaveNumbers = (file : List ItemData) (d : Domain) (name : List ℕ) → IsDomainOf file d →
    (is_some (says.state_named d name) ≡ true) ↔ IsStateOfSome file name

-- a name has a number as an action exactly if some class declares the action
abbrev pub ActionsHaveNumbers : Type 0
ActionsHaveNumbers = (file : List ItemData) (d : Domain) (name : List ℕ) → IsDomainOf file d →
    (is_some (says.action_named d name) ≡ true) ↔ IsActionOfSome file name

-- what has the same number is the same name
abbrev pub IsOneToOne : (List ℕ → Option ℕ) → Type 0
IsOneToOne number_of = (x y : List ℕ) (k : ℕ) → number_of x ≡ Some k → number_of y ≡ Some k → x ≡ y

-- so it is with states and with actions
abbrev pub NumbersAreOneToOne : Type 0
NumbersAreOneToOne = (d : Domain) → IsOneToOne (says.state_named d) × IsOneToOne (says.action_named d)

-- the state `DEAD` is added to some class of a file, and none declares it
pub record OnlyAddsDead (file : List ItemData) : Type 0 where
  pub to : ClassData
  pub class_in : Contains file (class to)
  pub adds : adds_dead to ≡ true
  pub none_declares : (c : ClassData) (s : StateData) → HasState file c s → s.name ≢ dead_name

-- the state `DEAD` has the last number, and those that a class declares have numbers before it
pub record DeadIsLast (file : List ItemData) (d : Domain) : Type 0 where
  pub number : ℕ
  pub is_last : suc number ≡ length d.states
  pub of_dead : says.state_named d dead_name ≡ Some number
  pub before : (c : ClassData) (s : StateData) → HasState file c s →
      IsSomeAnd (says.state_named d s.name) (λ k. k < number)

-- if it is only added, it is the last
abbrev pub AddedDeadIsLast : Type 0
AddedDeadIsLast = (file : List ItemData) (d : Domain) → IsDomainOf file d → OnlyAddsDead file → DeadIsLast file d

-- ---- conditions

-- A condition with numbers is true exactly if the condition of the file is. States that no class declares have no
-- number and are left out.
abbrev pub TruthIsKept : Type 0
TruthIsKept =
    (file : List ItemData) (d : Domain) (f : CondData) (read : ℕ → Option ℕ) → MembersAreObjects file →
    IsDomainOf file d → CondPlaced (names_of file) f → AreStateNames d read
    → holds_of (says.members_at d) read (formula_numbered (names_of file) f) ≡ holds_in file (by_names d read) f

-- so it is with each condition of a well-formed file
abbrev pub ConditionsArePlaced : Type 0
ConditionsArePlaced = (file : List ItemData) (c : ClassData) (a : ActionData) (f : CondData) → IsWellFormed file →
    IsCondOf file c a f → MembersAreObjects file × CondPlaced (names_of file) f
