-- The laws of parameters, and of legal journals.
use Rattle.std.specs.Prelude.{◌≡◌, ◌<◌, true, length, ℕ, List, [], ◌∷◌, ◌++◌, Some}
use Rattle.sml_domain.specs.declared.value.Value.{Value}
use Rattle.sml_domain.specs.Program.{Program}
use Rattle.sml_domain.specs.Domain.{Domain}
use Rattle.sml_domain.specs.Lookups.{is_state_of, class_params_at}
use Rattle.sml_domain.specs.Sound.{IsSound}
use Rattle.smi_journal_entries.specs.declared.journal.Format.{Format}
use Rattle.smi_journal_entries.specs.declared.journal.Format.TheVariants.{One, Two}
use Rattle.smi_journal_entries.specs.declared.letter.Letter.{Letter}
use Rattle.smi_journal_entries.specs.Requests.{Request}
use Rattle.smi_journal_entries.specs.Words.{Item, object_of, starts_at, shown_of, state_of, open_at, posts_between}
use Rattle.smi_journal_entries.specs.declared.entry.Cause.{Cause}
use Rattle.smi_journal_entries.specs.declared.entry.Entry.{Entry}
use Rattle.smi_journal_entries.specs.declared.entry.Entry.TheVariants.{Kill}
use Rattle.smi_meaning.specs.Environment.{Env, ValuesFit, ArgumentsAre}
use Rattle.smi_meaning.specs.Meaning.{Move, Outcome, Means}
use Rattle.smi_meaning.specs.Steps.{After, Leads}
use Rattle.smi_meaning.specs.Shown.{items_of, shown_moves, question_in, AgreeOnSets}
use Rattle.smi_meaning.specs.Params.{Running, running_at, env_of, IsDone, ParamsNext, ParamsAfter}
use Rattle.smi_meaning.specs.Legal.{ShowsNext, IsLegalAt, IsLegalFrom, IsLegal, PostIsWithin}
use Rattle.smi_meaning.specs.Items.{Post}
use Rattle.smi_journal_entries.specs.Sets.{members_in, sets_after, unchanged}
use Rattle.smi_meaning.specs.Laws.{ComesNext, AreAllowedMembers}

-- ---- parameters

-- two meanings that show the same are one
abbrev pub ShownIsOne : Type 0
ShownIsOne = (d : Domain) (b : Program) (env : Env) (moves others : List Move) (e1 e2 : Env) (r1 r2 : Outcome)
    → Means d b env moves e1 r1 → Means d b env others e2 r2 → shown_moves moves ≡ shown_moves others
    → (moves ≡ others) × (e1 ≡ e2) × (r1 ≡ r2)

-- what runs at an object is done in one way
abbrev pub DoneOnce : Type 0
DoneOnce = (format : Format) (d : Domain) (o : ℕ) (J : List Entry) (own : List Value) (e1 e2 : Env) (r1 r2 : Outcome)
    → IsDone format d o J own e1 r1 → IsDone format d o J own e2 r2 → (e1 ≡ e2) × (r1 ≡ r2)

-- an object has one list of parameters after a journal
abbrev pub ParamsAreOne : Type 0
ParamsAreOne = (format : Format) (d : Domain) (o : ℕ) (J : List Entry) (own own2 : List Value) →
    ParamsAfter format d o J own → ParamsAfter format d o J own2 → own ≡ own2

-- after one more entry they are what this entry leaves
abbrev pub ParamsMore : Type 0
ParamsMore = (format : Format) (d : Domain) (o : ℕ) (J : List Entry) (e : Entry) (own own2 : List Value)
    → ParamsAfter format d o J own → ParamsNext format d o J e own own2 → ParamsAfter format d o (J ++ e ∷ []) own2

-- and it has them after each legal journal
abbrev pub ParamsAreThere : Type 0
ParamsAreThere = (format : Format) (d : Domain) (o : ℕ) (J : List Entry) → IsLegal format d J →
    (own : List Value) × ParamsAfter format d o J own

-- ---- legal journals

-- a legal journal with one more entry that may follow is legal
abbrev pub LegalMore : Type 0
LegalMore = (format : Format) (d : Domain) (J : List Entry) (e : Entry) → IsLegal format d J → IsLegalAt format d J e →
    IsLegal format d (J ++ e ∷ [])

-- a prefix of a legal journal is legal, and the rest may follow it
abbrev pub LegalFront : Type 0
LegalFront = (format : Format) (d : Domain) (front back : List Entry) → IsLegal format d (front ++ back) →
    IsLegal format d front × IsLegalFrom format d front back

-- nothing starts at an object after it was killed
abbrev pub NothingStartsDead : Type 0
NothingStartsDead = (format : Format) (d : Domain) (front back : List Entry) (o : ℕ) (c : Cause) →
    IsLegal format d (front ++ Kill o c ∷ back) → starts_at o back ≡ []

-- what a move that may come next shows may be shown next, also within a send
abbrev pub NextIsLegal : Type 0
NextIsLegal = (format : Format) (d : Domain) (J : List Entry) (o : ℕ) (own : List Value) (run : Running)
    (made : List Move) (left : Program) (env1 : Env) (m : Move) (left2 : Program) (env2 : Env) (before : List Item)
    (item : Item) (behind : List Item)
    → ParamsAfter format d o J own → running_at format d o J ≡ Some run
    → Leads d run.program (env_of own run) made left env1 → After d left env1 m left2 env2
    → items_of m ≡ before ++ item ∷ behind → shown_of d o J ≡ shown_moves made ++ before
    → ShowsNext format d J o item

-- if the moves made are whole, and the journal shows them all, what runs is done
abbrev pub WholeIsDone : Type 0
WholeIsDone = (format : Format) (d : Domain) (J : List Entry) (o : ℕ) (own : List Value) (run : Running)
    (made : List Move) (left : Program) (env1 e2 : Env) (r : Outcome)
    → running_at format d o J ≡ Some run
    → Leads d run.program (env_of own run) made left env1 → Means d left env1 [] e2 r
    → shown_of d o J ≡ shown_moves made
    → IsDone format d o J own e2 r

-- conversely, what may be shown next is shown by a move that comes next
abbrev pub LegalIsNext : Type 0
LegalIsNext = (format : Format) (d : Domain) (J : List Entry) (o : ℕ) (own : List Value) (run : Running)
    (made : List Move) (left : Program) (env1 : Env) (before : List Item) (item : Item)
    → ParamsAfter format d o J own → running_at format d o J ≡ Some run
    → Leads d run.program (env_of own run) made left env1
    → shown_of d o J ≡ shown_moves made ++ before → ShowsNext format d J o item
    → (m : Move) × (behind : List Item) × ComesNext d left env1 m (before ++ item ∷ behind)

-- and if what runs is done, the moves made that the journal shows are whole, except for moves that show nothing
abbrev pub DoneIsWhole : Type 0
DoneIsWhole = (format : Format) (d : Domain) (J : List Entry) (o : ℕ) (own : List Value) (run : Running)
    (made : List Move) (left : Program) (env1 e2 : Env) (r : Outcome)
    → running_at format d o J ≡ Some run
    → Leads d run.program (env_of own run) made left env1 → shown_of d o J ≡ shown_moves made
    → IsDone format d o J own e2 r
    → (rest : List Move) × (shown_moves rest ≡ []) × Means d left env1 rest e2 r

-- a journal settles what an object asks next, by the same members
abbrev pub ShowsOne : Type 0
ShowsOne = (format : Format) (d : Domain) (J : List Entry) (o : ℕ) (x y : Item) → ShowsNext format d J o x →
    ShowsNext format d J o y → AgreeOnSets x y → question_in x ≡ question_in y

-- and whether it is done
abbrev pub DoneOrShows : Type 0
DoneOrShows =
    (format : Format) (d : Domain) (J : List Entry) (o : ℕ) (own : List Value) (e : Env) (r : Outcome) (x : Item)
    → ParamsAfter format d o J own → IsDone format d o J own e r → ShowsNext format d J o x → ⊥

-- ---- states

-- after a legal journal of a sound domain, an object is in a state of its class
abbrev pub StateIsKnown : Type 0
StateIsKnown = (format : Format) (d : Domain) (J : List Entry) (o : ℕ) → IsSound d → o < length d.objects →
    IsLegal format d J → is_state_of d o (state_of d o J) ≡ true

-- ---- values

-- each request to an object has arguments of its action
abbrev pub AllFit : Domain → ℕ → List Request → Type 0
AllFit d o [] = Unit {0}
AllFit d o (r ∷ rs) = ArgumentsAre d o r.action r.args × AllFit d o rs

-- the parameters, the open actions and the accepted posts of a journal have values of their kinds, and sets have only
-- members that they may come to have
pub record JournalFits (format : Format) (d : Domain) (J : List Entry) : Type 0 where
  pub params : (o : ℕ) (own : List Value) → ParamsAfter format d o J own → ValuesFit own (class_params_at d o)
  pub opened : (o : ℕ) (l : Letter) → open_at o J ≡ Some l → ArgumentsAre d o l.action l.args
  pub posted : (a o : ℕ) → AllFit d o (posts_between a o J)
  pub members : AreAllowedMembers d (members_in d (sets_after d J))

-- so it is after every legal journal of a sound domain
abbrev pub LegalFits : Type 0
LegalFits = (format : Format) (d : Domain) (J : List Entry) → IsSound d → IsLegal format d J → JournalFits format d J

-- ---- sets

-- after a legal journal of a sound domain a set has only members that it may come to have
abbrev pub MembersAreFew : Type 0
MembersAreFew = (format : Format) (d : Domain) (J : List Entry) → IsSound d → IsLegal format d J →
    AreAllowedMembers d (members_in d (sets_after d J))

-- after a legal journal of the first format each set has its declared members
abbrev pub OldMembersStay : Type 0
OldMembersStay = (d : Domain) (J : List Entry) → IsLegal One d J → sets_after d J ≡ unchanged d

-- ---- fan-outs

-- a fan-out of an object that has some of its posts in the journal has one next request
abbrev pub WithinIsOne : Type 0
WithinIsOne = (d : Domain) (J : List Entry) (o : ℕ) (p q : Post) → PostIsWithin d J o p → PostIsWithin d J o q → p ≡ q

-- it is a fan-out of the object of the entry before
abbrev pub WithinIsLast : Type 0
WithinIsLast = (d : Domain) (J : List Entry) (e : Entry) (o : ℕ) (p : Post) → IsLegal Two d J → IsLegalAt Two d J e →
    PostIsWithin d (J ++ e ∷ []) o p → o ≡ object_of e

-- so it is of one object
abbrev pub OneIsWithin : Type 0
OneIsWithin = (d : Domain) (J : List Entry) (o x : ℕ) (p q : Post) → IsLegal Two d J → PostIsWithin d J o p →
    PostIsWithin d J x q → o ≡ x

-- if all that the moves made show is in the journal, no fan-out of theirs has some posts there and some not
abbrev pub WholeIsOut : Type 0
WholeIsOut = (d : Domain) (J : List Entry) (o : ℕ) (p : Post) (own : List Value) (run : Running) (moves : List Move)
    (left : Program) (env : Env)
    → ParamsAfter Two d o J own → running_at Two d o J ≡ Some run
    → Leads d run.program (env_of own run) moves left env → shown_of d o J ≡ shown_moves moves → PostIsWithin d J o p →
    ⊥
