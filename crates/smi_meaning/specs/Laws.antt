-- The laws of what blocks mean.
use Rattle.std.specs.Prelude.{◌≡◌, ◌↔◌, ℕ, true, nat_eq, List, [], ◌∷◌, ◌++◌, map, Some, All}
use Rattle.std.specs.List.{IsDistinct, list_any, Contains}
use Rattle.sml_domain.specs.declared.value.Value.{Value}
use Rattle.sml_domain.specs.Program.{Argument, Target, Formula, Program}
use Rattle.sml_domain.specs.Domain.{Domain, Class, Param}
use Rattle.sml_domain.specs.Lookups.{may_at, has_state}
use Rattle.sml_domain.specs.Truth.{Reading, state_read}
use Rattle.sml_domain.specs.Completing.{complete}
use Rattle.sml_domain.specs.Names.{AreDistinct}
use Rattle.sml_domain.specs.Fits.{ArgumentsFit, SendFits, ProgramFits}
use Rattle.sml_domain.specs.Sound.{ParamFits, IsSound, name_of_param}
use Rattle.sml_domain.specs.Laws.{passed_as, KeepsKinds}
use Rattle.smi_journal_entries.specs.Fits.{are_values_of, are_arguments}
use Rattle.smi_meaning.specs.Quiet.{AreUnchanged, heard, quiet}
use Rattle.smi_meaning.specs.Items.{Post, Posted, Sending, item_of}
use Rattle.smi_journal_entries.specs.Words.{Item}
use Rattle.smi_meaning.specs.Environment.{Env, value_of, ValuesFit, ArgumentsAre, EnvFits}
use Rattle.smi_meaning.specs.Conditions.{firsts, named_by, objects_of, object_read, asked_in, objects_named}
use Rattle.smi_meaning.specs.Meaning.{Move, DidSend, Outcome, To, Means, values_for, wanted, want, posts_of}
use Rattle.smi_meaning.specs.Steps.{After, Leads}
use Rattle.smi_meaning.specs.Shown.{items_of, shown_moves, replies_to, question_in, AgreeOnSets}

-- ---- meanings

-- equal moves leave one environment, and have one outcome
abbrev pub OneEnd : Type 0
OneEnd = (d : Domain) (b : Program) (env : Env) (moves : List Move) (e1 : Env) (r1 : Outcome) (e2 : Env) (r2 : Outcome)
    → Means d b env moves e1 r1 → Means d b env moves e2 r2 → (e1 ≡ e2) × (r1 ≡ r2)

-- a block has a meaning
abbrev pub HasMeaning : Domain → Program → Env → Type 0
HasMeaning d b env = (moves : List Move) × (env2 : Env) × (r : Outcome) × Means d b env moves env2 r

-- so has every block
abbrev pub SomeMeaning : Type 0
SomeMeaning = (d : Domain) (b : Program) (env : Env) → HasMeaning d b env

-- some meaning begins with these moves
abbrev pub MeaningBegins : Domain → Program → Env → List Move → Type 0
MeaningBegins d b env made = (more : List Move) × (env2 : Env) × (r : Outcome) × Means d b env (made ++ more) env2 r

-- some meaning begins with what was made
abbrev pub SomeGoesOn : Type 0
SomeGoesOn = (d : Domain) (b : Program) (env : Env) (made : List Move) (left : Program) (env1 : Env)
    → Leads d b env made left env1 → MeaningBegins d b env made

-- whole moves do not continue
abbrev pub WholeEnds : Type 0
WholeEnds = (d : Domain) (b : Program) (env : Env) (moves more : List Move) (m : Move) (e1 : Env) (r1 : Outcome)
    (e2 : Env) (r2 : Outcome)
    → Means d b env moves e1 r1 → Means d b env (moves ++ m ∷ more) e2 r2 → ⊥

-- ---- moves

-- the moves made and a meaning of what is left make a meaning
abbrev pub LeadsIn : Type 0
LeadsIn = (d : Domain) (b : Program) (env : Env) (made : List Move) (left : Program) (env1 : Env) (moves : List Move)
    (e2 : Env) (r : Outcome)
    → Leads d b env made left env1 → Means d left env1 moves e2 r → Means d b env (made ++ moves) e2 r

-- and a meaning that begins with the moves made continues as a meaning of what is left
abbrev pub LeadsOut : Type 0
LeadsOut = (d : Domain) (b : Program) (env : Env) (made : List Move) (left : Program) (env1 : Env) (moves : List Move)
    (e2 : Env) (r : Outcome)
    → Leads d b env made left env1 → Means d b env (made ++ moves) e2 r → Means d left env1 moves e2 r

-- one more move is made from what is left
abbrev pub LeadsMore : Type 0
LeadsMore = (d : Domain) (b : Program) (env : Env) (made : List Move) (left : Program) (env1 : Env) (m : Move)
    (left2 : Program) (env2 : Env)
    → Leads d b env made left env1 → After d left env1 m left2 env2 → Leads d b env (made ++ m ∷ []) left2 env2

-- a prefix of a meaning's moves leads to what means the others
abbrev pub LeadsTo : Domain → Program → Env → List Move → List Move → Env → Outcome → Type 0
LeadsTo d b env made moves e2 r =
    (left : Program) × (env1 : Env) × Leads d b env made left env1 × Means d left env1 moves e2 r

-- so does every prefix of the moves of every meaning
abbrev pub FrontsLead : Type 0
FrontsLead = (d : Domain) (b : Program) (env : Env) (made moves : List Move) (e2 : Env) (r : Outcome)
    → Means d b env (made ++ moves) e2 r → LeadsTo d b env made moves e2 r

-- equal moves leave one rest, in one environment
abbrev pub LeadsOnce : Type 0
LeadsOnce = (d : Domain) (b : Program) (env : Env) (made : List Move) (left : Program) (env1 : Env) (left2 : Program)
    (env2 : Env)
    → Leads d b env made left env1 → Leads d b env made left2 env2 → (left ≡ left2) × (env1 ≡ env2)

-- ---- what is shown

-- a meaning that shows what the moves made show, and then more, begins with them
abbrev pub ShownSettles : Type 0
ShownSettles = (d : Domain) (b : Program) (env : Env) (made : List Move) (left : Program) (env1 : Env)
    (moves : List Move) (e2 : Env) (r : Outcome) (more : List Item)
    → Leads d b env made left env1 → Means d b env moves e2 r → shown_moves moves ≡ shown_moves made ++ more
    → (rest : List Move) × (moves ≡ made ++ rest) × (shown_moves rest ≡ more)

-- a move that may come next, by a meaning of what is left that shows more
pub record ComesNext (d : Domain) (left : Program) (env : Env) (m : Move) (more : List Item) : Type 0 where
  pub rest : List Move
  pub end : Env
  pub outcome : Outcome
  pub means : Means d left env (m ∷ rest) end outcome
  pub shown : items_of m ++ shown_moves rest ≡ more

-- what a meaning shows after the moves made is shown by a move that may come next, unless it shows no more
abbrev pub NextIsShown : Type 0
NextIsShown = (d : Domain) (b : Program) (env : Env) (made : List Move) (left : Program) (env1 : Env)
    (moves : List Move) (e2 : Env) (r : Outcome) (item : Item) (more : List Item)
    → Leads d b env made left env1 → Means d b env moves e2 r → shown_moves moves ≡ shown_moves made ++ item ∷ more
    → (m : Move) × ComesNext d left env1 m (item ∷ more)

-- what was shown settles what is asked next: two meanings that show the same until then, and go by the same members
-- next, ask the same
abbrev pub ShownAsksOne : Type 0
ShownAsksOne = (d : Domain) (b : Program) (env : Env) (moves others : List Move) (e1 e2 : Env) (r1 r2 : Outcome)
    (items : List Item) (x : Item) (more : List Item) (y : Item) (rest : List Item)
    → Means d b env moves e1 r1 → Means d b env others e2 r2
    → shown_moves moves ≡ items ++ x ∷ more → shown_moves others ≡ items ++ y ∷ rest
    → AgreeOnSets x y → question_in x ≡ question_in y

-- and whether anything is
abbrev pub ShownEndsOrAsks : Type 0
ShownEndsOrAsks = (d : Domain) (b : Program) (env : Env) (moves others : List Move) (e1 e2 : Env) (r1 r2 : Outcome)
    (y : Item) (rest : List Item)
    → Means d b env moves e1 r1 → Means d b env others e2 r2
    → shown_moves others ≡ shown_moves moves ++ y ∷ rest → ⊥

-- the replies to moves settle what they show
abbrev pub RepliesSettle : Type 0
RepliesSettle = (d : Domain) (b : Program) (env : Env) (made : List Move) (left : Program) (env1 : Env)
    (others : List Move) (left2 : Program) (env2 : Env)
    → Leads d b env made left env1 → Leads d b env others left2 env2 → replies_to made ≡ replies_to others →
    shown_moves made ≡ shown_moves others

-- ---- conditions

-- no object of a condition is listed twice
abbrev pub NamedOnce : Type 0
NamedOnce = (members : ℕ → List ℕ) (f : Formula) → IsDistinct nat_eq (objects_of members f)

-- they are those that it names
abbrev pub NamedAreThose : Type 0
NamedAreThose = (members : ℕ → List ℕ) (f : Formula) (o : ℕ) →
    list_any (nat_eq o) (objects_of members f) ≡ list_any (nat_eq o) (named_by members f)

-- those in a prefix of what it names are before the others
abbrev pub NamedInOrder : Type 0
NamedInOrder = (members : ℕ → List ℕ) (f : Formula) (front back : List ℕ) → named_by members f ≡ front ++ back
    → (others : List ℕ) × (objects_of members f ≡ firsts front ++ others)

-- a state was read of each that it names, if its objects were read
abbrev pub NamedAreRead : Type 0
NamedAreRead = (members : ℕ → List ℕ) (f : Formula) (readings : List Reading) (o : ℕ) →
    map object_read readings ≡ objects_of members f
    → list_any (nat_eq o) (named_by members f) ≡ true → (s : ℕ) × (state_read readings o ≡ Some s)

-- the objects of a condition are those that its names stand for
abbrev pub NamesAreThose : Type 0
NamesAreThose = (members : ℕ → List ℕ) (f : Formula) → objects_named members (asked_in f) ≡ objects_of members f

-- ---- arguments

-- if arguments fit, no parameter is without a value
abbrev pub ArgumentsAreWhole : Type 0
ArgumentsAreWhole = (own given params : List Param) (args : List Argument) (env : Env)
    → KeepsKinds own given (value_of env) → All ParamFits params → AreDistinct (map name_of_param params) →
    ArgumentsFit own given args params
    → map Some (values_for params env args) ≡ complete params (map (passed_as (value_of env)) args)

-- and each value has the kind of its parameter
abbrev pub ArgumentsHaveKinds : Type 0
ArgumentsHaveKinds = (own given params : List Param) (args : List Argument) (env : Env)
    → EnvFits own given env → All ParamFits params → AreDistinct (map name_of_param params) →
    ArgumentsFit own given args params
    → ValuesFit (values_for params env args) params

-- operands have values of their kinds in an environment that fits
abbrev pub OperandsHaveKinds : Type 0
OperandsHaveKinds = (own given : List Param) (env : Env) → EnvFits own given env → KeepsKinds own given (value_of env)

-- the target of a post has the action, with parameters that the arguments are of
abbrev pub PostFits : Domain → Post → Type 0
PostFits d p = ArgumentsAre d p.target p.action p.args

-- sets have only members that they may come to have
abbrev pub AreAllowedMembers : Domain → (ℕ → List ℕ) → Type 0
AreAllowedMembers d members = (set : ℕ) → All (Contains (may_at d set)) (members set)

-- so has that of each post that is wanted
abbrev pub WantedFit : Type 0
WantedFit = (d : Domain) (members : ℕ → List ℕ) (own given : List Param) (env : Env) (target : Target) (a : ℕ)
    (args : List Argument)
    → IsSound d → AreAllowedMembers d members → SendFits d own given a args target → EnvFits own given env
    → All (PostFits d) (wanted d members target a args env)

-- what a `do` asks for stands for the posts that are wanted
abbrev pub WantedArePosted : Type 0
WantedArePosted = (d : Domain) (members : ℕ → List ℕ) (target : Target) (a : ℕ) (args : List Argument) (env : Env)
    → posts_of d members (want target a args env) ≡ wanted d members target a args env

-- values fit parameters exactly if the test of them passes
abbrev pub FitIsTested : Type 0
FitIsTested =
    (params : List Param) (values : List Value) → ValuesFit values params ↔ (are_values_of params values ≡ true)

-- and arguments an action of an object
abbrev pub ArgumentsAreTested : Type 0
ArgumentsAreTested =
    (d : Domain) (o a : ℕ) (args : List Value) → ArgumentsAre d o a args ↔ (are_arguments d o a args ≡ true)

-- ---- environments

-- a block that fits leaves an environment that fits
abbrev pub MeaningsKeepKinds : Type 0
MeaningsKeepKinds = (d : Domain) (c : Class) (given : List Param) (b : Program) (env : Env) (moves : List Move)
    (env2 : Env) (r : Outcome)
    → ProgramFits d c given b → EnvFits c.params given env → Means d b env moves env2 r → EnvFits c.params given env2

-- a block that fits ends in states of its class alone
abbrev pub MeaningsEndInStates : Type 0
MeaningsEndInStates =
    (d : Domain) (c : Class) (given : List Param) (b : Program) (env : Env) (moves : List Move) (env2 : Env) (s : ℕ)
    → ProgramFits d c given b → Means d b env moves env2 (To s) → has_state s c ≡ true

-- what is left of a block that fits, fits, in an environment that does
abbrev pub LeftFits : Type 0
LeftFits = (d : Domain) (c : Class) (given : List Param) (b : Program) (env : Env) (made : List Move) (left : Program)
    (env1 : Env)
    → ProgramFits d c given b → EnvFits c.params given env → Leads d b env made left env1 →
    ProgramFits d c given left × EnvFits c.params given env1

-- ---- sends

-- what moves show never ends within a send
abbrev pub WholeIsNotWithin : Type 0
WholeIsNotWithin = (d : Domain) (b : Program) (env : Env) (made : List Move) (left : Program) (env1 : Env)
    (others : List Move) (left2 : Program) (env2 : Env) (s : Sending) (left3 : Program) (env3 : Env)
    (first : Posted) (front : List Posted) (next : Posted) (behind : List Posted)
    → Leads d b env made left env1 → Leads d b env others left2 env2 → After d left2 env2 (DidSend s) left3 env3 →
    s.posts ≡ (first ∷ front) ++ next ∷ behind
    → shown_moves made ≡ shown_moves others ++ map (item_of s.sets) (first ∷ front) → ⊥

-- moves through a block, made while sets had their declared members, are, without sends to nobody, moves through the
-- block as the first format shows it
abbrev pub QuietLeads : Type 0
QuietLeads = (d : Domain) (b : Program) (env : Env) (made : List Move) (left : Program) (env1 : Env)
    → Leads d b env made left env1 → AreUnchanged d made → Leads d (quiet d b) env (heard made) (quiet d left) env1
