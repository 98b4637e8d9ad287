-- The lines of an outset: what may stand in each, and the first of a text that may not.
use Rattle.std.specs.Prelude.{◌≡◌, ◌≢◌, ◌<◌, ◌^◌, ℕ, true, List, [], ◌∷◌, ◌++◌, IfSome, Some, flat_map, length, map, slice_get}
use Rattle.std.specs.List.{range_with_len}
use Rattle.sml_domain.specs.Domain.{Domain, Param}
use Rattle.sml_domain.specs.Lookups.{class_params_at, is_state_of}
use Rattle.smi_journal.specs.HasText.{ValueIsHeld}
use Rattle.sml_outset.specs.Suits.{MembersSuit, ParamSuits}
use Rattle.smi_outset_text.specs.OutsetText.{outset_members_line, outset_param_line, outset_state_line}

-- which line it is: of the state of an object, of one of its parameters, or of the members of a set
pub data OutsetLine : Type 0 where
  StateOf : ℕ → OutsetLine
  ParamOf : ℕ → ℕ → OutsetLine
  MembersOf : ℕ → OutsetLine

-- the lines of the states of all objects
abbrev pub state_lines : Domain → List OutsetLine
state_lines d = map StateOf (range_with_len 0 (length d.objects))

-- the lines of the parameters of an object
abbrev pub param_lines_of : Domain → ℕ → List OutsetLine
param_lines_of d o = map (ParamOf o) (range_with_len 0 (length (class_params_at d o)))

-- the lines of the parameters of all objects
abbrev pub param_lines : Domain → List OutsetLine
param_lines d = flat_map (param_lines_of d) (range_with_len 0 (length d.objects))

-- the lines of the members of all sets
abbrev pub members_lines : Domain → List OutsetLine
members_lines d = map MembersOf (range_with_len 0 (length d.groups))

-- the lines of all objects: the state of each, and then their parameters
abbrev pub lines_of_objects : Domain → List OutsetLine
lines_of_objects d = state_lines d ++ param_lines d

-- the lines of an outset
abbrev pub outset_lines : Domain → List OutsetLine
outset_lines d = lines_of_objects d ++ members_lines d

-- the text is that of a state that the object may be in
pub record IsStateLine (d : Domain) (o : ℕ) (text : List ℕ) : Type 0 where
  pub state : ℕ
  pub is : is_state_of d o state ≡ true
  pub held : state < 2 ^ 64
  pub says : text ≡ outset_state_line d o state

-- the text is that of a value that the parameter may have
pub record IsParamLine (d : Domain) (o k : ℕ) (text : List ℕ) : Type 0 where
  pub param : Param
  pub given : Param
  pub at : slice_get (class_params_at d o) k ≡ Some param
  pub suits : ParamSuits param given
  pub held : IfSome given.value ValueIsHeld
  pub says : text ≡ outset_param_line d o given

-- the text is that of members that the set may have
pub record IsMembersLine (d : Domain) (set : ℕ) (text : List ℕ) : Type 0 where
  pub members : List ℕ
  pub suit : MembersSuit d set members
  pub says : text ≡ outset_members_line d set members

-- the text may stand in the line
abbrev pub MayStand : Domain → OutsetLine → List ℕ → Type 0
MayStand d (StateOf o) text = IsStateLine d o text
MayStand d (ParamOf o k) text = IsParamLine d o k text
MayStand d (MembersOf set) text = IsMembersLine d set text

-- a text begins with what may stand in these lines, and then others follow
abbrev pub BeginsWithLines : Domain → List OutsetLine → List ℕ → List ℕ → Type 0
BeginsWithLines d [] text rest = text ≡ rest
BeginsWithLines d (line ∷ lines) text rest =
    (one : List ℕ) × (more : List ℕ) × MayStand d line one × (text ≡ one ++ more)
    × BeginsWithLines d lines more rest

-- a text does not begin with anything that may stand in the line
abbrev pub IsBadFor : Domain → OutsetLine → List ℕ → Type 0
IsBadFor d line text = (one more : List ℕ) → MayStand d line one → text ≢ one ++ more

-- of the lines that a text has to begin with, the first that is not there has this many before it
pub record IsFirstBadLine (d : Domain) (lines : List OutsetLine) (text : List ℕ) (count : ℕ) : Type 0 where
  pub before : List OutsetLine
  pub line : OutsetLine
  pub others : List OutsetLine
  pub rest : List ℕ
  pub split : lines ≡ before ++ line ∷ others
  pub number : count ≡ length before
  pub good : BeginsWithLines d before text rest
  pub bad : IsBadFor d line rest
