-- An outset that suits a domain: each object stands in a state of its class, each of its parameters has a value of its
-- kind, and each set has members that it may come to have, none of them twice.
use Rattle.std.specs.Prelude.{◌≡◌, ◌<◌, ℕ, true, List, [], All, length, get_or}
use Rattle.std.specs.List.{Contains}
use Rattle.sml_domain.specs.Domain.{Domain, Param}
use Rattle.sml_domain.specs.Lookups.{is_state_of, class_params_at, may_at}
use Rattle.sml_domain.specs.Sound.{ClassParamFits, EachOnce}
use Rattle.sml_outset.specs.Outset.{Stand, Outset}

-- a parameter has the name and the kind of another, and a value of the kind
pub record ParamSuits (p given : Param) : Type 0 where
  pub name : given.name ≡ p.name
  pub kind : given.kind ≡ p.kind
  pub value : ClassParamFits given

-- so have parameters one by one
pub record ParamsSuit (params given : List Param) : Type 0 where
  pub count : length given ≡ length params
  pub each : (k : ℕ) (p x : Param) → k < length params → ParamSuits (get_or params k p) (get_or given k x)

-- an object may stand so
pub record StandSuits (d : Domain) (o : ℕ) (x : Stand) : Type 0 where
  pub state : is_state_of d o x.state ≡ true
  pub params : ParamsSuit (class_params_at d o) x.params

-- a set may have these members
pub record MembersSuit (d : Domain) (set : ℕ) (members : List ℕ) : Type 0 where
  pub may : All (Contains (may_at d set)) members
  pub once : EachOnce members

-- each object may stand so
abbrev pub StandsSuit : Domain → List Stand → Type 0
StandsSuit d stands = (o : ℕ) (s : Stand) → o < length stands → StandSuits d o (get_or stands o s)

-- each set may have these members
abbrev pub AllMembersSuit : Domain → List (List ℕ) → Type 0
AllMembersSuit d members = (set : ℕ) (m : List ℕ) → set < length members → MembersSuit d set (get_or members set m)

-- all may stand so
pub record Suits (d : Domain) (x : Outset) : Type 0 where
  pub objects : length x.stands ≡ length d.objects
  pub sets : length x.members ≡ length d.groups
  pub stand : StandsSuit d x.stands
  pub have : AllMembersSuit d x.members
