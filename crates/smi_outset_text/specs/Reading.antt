-- What a text is read as.
use Rattle.std.specs.Prelude.{◌≡◌, ◌≢◌, ◌<◌, ◌^◌, ◌⊎◌, ℕ, true, List, [], ◌∷◌, ◌++◌, All, IfSome, Option, Some, None, flat_map, get_or, length}
use Rattle.std.specs.List.{Contains}
use Rattle.sml_domain.specs.declared.value.Value.{Value}
use Rattle.sml_domain.specs.Domain.{Domain, Param, State}
use Rattle.sml_domain.specs.Lookups.{is_state_of, may_at}
use Rattle.sml_domain.specs.Sound.{IsOfKind}
use Rattle.sml_tree.specs.declared.file.Kind.{Kind}
use Rattle.smi_journal.specs.CallText.{value_text}
use Rattle.smi_journal.specs.HasText.{ValueIsHeld}
use Rattle.sml_outset.specs.Outset.{Outset, Stand}
use Rattle.sml_outset.specs.Suits.{MembersSuit, ParamSuits}
use Rattle.smi_outset_text.specs.declared.fault.OutsetFault.{OutsetFault}
use Rattle.smi_outset_text.specs.declared.fault.OutsetFault.TheVariants.{BadLine, Memory}
use Rattle.smi_outset_text.specs.OutsetText.{member_word, outset_members_line, outset_param_line, outset_state_line}
use Rattle.smi_outset_text.specs.Lines.{IsFirstBadLine, OutsetLine}

-- what follows a text that stands in front of another, or that it does not stand there
abbrev pub FollowsFront : List ℕ → List ℕ → Option (List ℕ) → Type 0
FollowsFront text front (Some more) = text ≡ front ++ more
FollowsFront text front None = (more : List ℕ) → text ≢ front ++ more

-- what stands before a text that ends another, or that it does not stand there
abbrev pub Precedes : List ℕ → List ℕ → Option (List ℕ) → Type 0
Precedes text end (Some front) = text ≡ front ++ end
Precedes text end None = (front : List ℕ) → text ≢ front ++ end

-- bytes in quotes
abbrev pub quoted : List ℕ → List ℕ
quoted bytes = 34 ∷ (bytes ++ 34 ∷ [])

-- the value of a kind whose text it is, or that it is the text of no value of the kind
abbrev pub ReadsValue : Kind → List ℕ → Option Value → Type 0
ReadsValue kind text (Some v) = IsOfKind kind v × ValueIsHeld v × (text ≡ value_text v)
ReadsValue kind text None = (v : Value) → IsOfKind kind v → ValueIsHeld v → text ≢ value_text v

-- the object may be in the state, which has a number of 64 bits
pub record IsOwnState (d : Domain) (o s : ℕ) : Type 0 where
  pub is : is_state_of d o s ≡ true
  pub small : s < 2 ^ 64

-- the line of a state of the object is in front, and this follows it
abbrev pub StateIsRead : Domain → ℕ → List ℕ → ℕ → List ℕ → Type 0
StateIsRead d o text s more = IsOwnState d o s × (text ≡ outset_state_line d o s ++ more)

-- no line of a state of the object is in front
abbrev pub NoStateIsRead : Domain → ℕ → List ℕ → Type 0
NoStateIsRead d o text = (s : ℕ) (more : List ℕ) → StateIsRead d o text s more → ⊥

-- the state of the object whose line is in front, and what follows it
abbrev pub ReadsState : Domain → ℕ → List ℕ → Option (ℕ × List ℕ) → Type 0
ReadsState d o text (Some x) = StateIsRead d o text x.0 x.1
ReadsState d o text None = NoStateIsRead d o text

-- the line of none of the first of these states is in front
abbrev pub NoStateOf : Domain → ℕ → List ℕ → List State → ℕ → Type 0
NoStateOf d o text rows n =
    (k : ℕ) (r : State) (more : List ℕ) → k < n → StateIsRead d o text (get_or rows k r).number more → ⊥

-- the state among these whose line is in front, and what follows it
abbrev pub StateIsFound : Domain → ℕ → List ℕ → List State → Option (ℕ × List ℕ) → Type 0
StateIsFound d o text rows (Some x) = StateIsRead d o text x.0 x.1
StateIsFound d o text rows None = NoStateOf d o text rows (length rows)

-- the line of the parameter with such a value is in front, and this follows it
pub record ParamIsRead (d : Domain) (o : ℕ) (p : Param) (text : List ℕ) (given : Param) (more : List ℕ) : Type 0 where
  pub suits : ParamSuits p given
  pub held : IfSome given.value ValueIsHeld
  pub says : text ≡ outset_param_line d o given ++ more

-- no value that the parameter may have is in front
abbrev pub NoParamIsRead : Domain → ℕ → Param → List ℕ → Type 0
NoParamIsRead d o p text = (given : Param) (more : List ℕ) → ParamIsRead d o p text given more → ⊥

-- the parameter with the value whose line is in front, and what follows it
abbrev pub ReadsParam : Domain → ℕ → Param → List ℕ → Option (Param × List ℕ) → Type 0
ReadsParam d o p text (Some x) = ParamIsRead d o p text x.0 x.1
ReadsParam d o p text None = NoParamIsRead d o p text

-- what a fault says of a text that has to begin with these lines; `Memory` says nothing
abbrev pub FaultIsIn : Domain → List OutsetLine → List ℕ → OutsetFault → Type 0
FaultIsIn d lines text (BadLine count) = IsFirstBadLine d lines text count
FaultIsIn d lines text Memory = Unit {0}

-- each object has a state, which is its own
pub record AreOwnStates (d : Domain) (states : List ℕ) : Type 0 where
  pub count : length states ≡ length d.objects
  pub each : (o s : ℕ) → o < length states → IsOwnState d o (get_or states o s)

-- what follows the line of a state, which is one of the object's
abbrev pub OwnFollows : Domain → ℕ → List ℕ → ℕ → Option (List ℕ) → Type 0
OwnFollows d o text s (Some more) = StateIsRead d o text s more
OwnFollows d o text s None = (more : List ℕ) → StateIsRead d o text s more → ⊥

-- the parameter has a value of 64 bits, or the bytes of a string
abbrev pub IsHeldParam : Param → Type 0
IsHeldParam p = IfSome p.value ValueIsHeld

-- so have all parameters of an object, and its state has a number of 64 bits
pub record IsHeldStand (x : Stand) : Type 0 where
  pub state : x.state < 2 ^ 64
  pub params : All IsHeldParam x.params

-- so it is of all objects of an outset
abbrev pub IsHeldOutset : Outset → Type 0
IsHeldOutset x = All IsHeldStand x.stands

-- the state of a stand
abbrev pub state_of_stand : Stand → ℕ
state_of_stand x = x.state

-- a blank or a line feed is in front
abbrev pub EndsWord : List ℕ → Type 0
EndsWord [] = ⊥
EndsWord (c ∷ cs) = (c ≡ 32) ⊎ (c ≡ 10)

-- the name of the object is in front, and this follows it, where the word ends
abbrev pub MemberIsRead : Domain → List ℕ → ℕ → List ℕ → Type 0
MemberIsRead d text o more = (text ≡ member_word d o ++ more) × EndsWord more

-- what follows the name of an object, where the word ends
abbrev pub MemberFollows : Domain → List ℕ → ℕ → Option (List ℕ) → Type 0
MemberFollows d text o (Some more) = MemberIsRead d text o more
MemberFollows d text o None = (more : List ℕ) → MemberIsRead d text o more → ⊥

-- the name of none of the first of these objects is in front
abbrev pub NoMemberOf : Domain → List ℕ → List ℕ → ℕ → Type 0
NoMemberOf d text objects n = (k o : ℕ) (more : List ℕ) → k < n → MemberIsRead d text (get_or objects k o) more → ⊥

-- the object among these whose name is in front, and what follows it
abbrev pub MemberIsFound : Domain → List ℕ → List ℕ → Option (ℕ × List ℕ) → Type 0
MemberIsFound d text objects (Some x) = Contains objects x.0 × MemberIsRead d text x.0 x.1
MemberIsFound d text objects None = NoMemberOf d text objects (length objects)

-- the names of these objects, which a set may have, are in front, up to a line feed, and this follows it
abbrev pub WordsAreRead : Domain → ℕ → List ℕ → List ℕ → List ℕ → Type 0
WordsAreRead d set text objects more =
    All (Contains (may_at d set)) objects × (text ≡ flat_map (member_word d) objects ++ 10 ∷ more)

-- the objects whose names are in front up to a line feed, and what follows it: no others have these names
abbrev pub ReadsWords : Domain → ℕ → List ℕ → Option (List ℕ × List ℕ) → Type 0
ReadsWords d set text (Some x) = WordsAreRead d set text x.0 x.1
    × ((objects more : List ℕ) → WordsAreRead d set text objects more → objects ≡ x.0)
ReadsWords d set text None = (objects more : List ℕ) → WordsAreRead d set text objects more → ⊥

-- the names of these objects are in front, and then the rest, which begins with those that are still to be read
abbrev pub WordsGoOn : Domain → ℕ → List ℕ → List ℕ → List ℕ → Type 0
WordsGoOn d set text objects rest = (all more : List ℕ) → WordsAreRead d set text all more
    → (others : List ℕ) × (all ≡ objects ++ others) × WordsAreRead d set rest others more

-- the line of these members, which suit the set, is in front, and this follows it
abbrev pub MembersAreRead : Domain → ℕ → List ℕ → List ℕ → List ℕ → Type 0
MembersAreRead d set text members more =
    MembersSuit d set members × (text ≡ outset_members_line d set members ++ more)

-- the members of a set whose line is in front, and what follows it
abbrev pub ReadsMembers : Domain → ℕ → List ℕ → Option (List ℕ × List ℕ) → Type 0
ReadsMembers d set text (Some x) = MembersAreRead d set text x.0 x.1
ReadsMembers d set text None = (members more : List ℕ) → MembersAreRead d set text members more → ⊥
