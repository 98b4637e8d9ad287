-- The rules that each kind of entry must keep, in the order in which they are tried.
use Rattle.std.specs.Prelude.{◌≡◌, ◌⊎◌, ℕ, Bool, true, false, List, [], ◌∷◌, length, Some, None, All, slice_get, is_some, MatchBool}
use Rattle.std.specs.List.{list_all}
use Rattle.sml_domain.specs.Domain.{Domain}
use Rattle.sml_domain.specs.Lookups.{associated_at, is_state_of}
use Rattle.sml_domain.specs.Truth.{Reading}
use Rattle.smi_journal_entries.specs.declared.entry.Verdict.{Verdict}
use Rattle.smi_journal_entries.specs.declared.entry.Verdict.TheVariants.{Accepted, Full, Dead}
use Rattle.smi_journal_entries.specs.declared.entry.Sender.{Sender}
use Rattle.smi_journal_entries.specs.declared.entry.Sender.TheVariants.{Operator, Object}
use Rattle.smi_journal_entries.specs.declared.entry.ActionEnd.{ActionEnd}
use Rattle.smi_journal_entries.specs.declared.entry.ActionEnd.TheVariants.{State, Skipped}
use Rattle.smi_journal_entries.specs.declared.entry.Cause.{Cause}
use Rattle.smi_journal_entries.specs.declared.entry.Entry.{Entry}
use Rattle.smi_journal_entries.specs.declared.entry.Entry.TheVariants.{Start, Post, Wait, Seen, End, Kill, Insert, Remove, NoMember}
use Rattle.smi_journal_entries.specs.declared.journal.Format.{Format}
use Rattle.smi_journal_entries.specs.declared.journal.Format.TheVariants.{One, Two}
use Rattle.smi_journal_entries.specs.Requests.{Request, from_sender}
use Rattle.smi_journal_entries.specs.Sets.{sets_after}
use Rattle.smi_journal_entries.specs.Words.{Item, Sent, HadNone, Saw, Turned, starts_at, posts_between, open_at, is_open, is_killed, state_of}
use Rattle.smi_meaning.specs.Environment.{ArgumentsAre}
use Rattle.smi_meaning.specs.Params.{running_at}
use Rattle.smi_meaning.specs.Legal.{ShowsNext, WaitsToRead, BlockEnds, MayKill, InTwo, SplitsNone, is_clear_for}
use Rattle.smi_audit_rules.specs.declared.rule.Rule.{Rule}
use Rattle.smi_audit_rules.specs.declared.rule.Rule.TheVariants as rule

-- the rules of an entry by its kind, in the order in which they are tried
abbrev pub own_rules : Entry → List Rule
own_rules (Start o s n a args) = rule.Killed ∷ rule.Open ∷ rule.Number ∷ rule.NotSent ∷ rule.BadRequest ∷ []
own_rules (Post o t v a args) = rule.NotOpen ∷ rule.Meaning ∷ rule.Dead ∷ rule.Number ∷ []
own_rules (Wait o) = rule.NotOpen ∷ rule.Meaning ∷ rule.Clear ∷ []
own_rules (Seen o readings) = rule.NotOpen ∷ rule.Meaning ∷ rule.Busy ∷ rule.Reading ∷ []
own_rules (End o r) = rule.NotOpen ∷ rule.Meaning ∷ rule.NotAState ∷ []
own_rules (Kill o c) = rule.Killed ∷ rule.NotOpen ∷ []
own_rules (Insert o member set) = rule.NotOpen ∷ rule.Meaning ∷ []
own_rules (Remove o member set) = rule.NotOpen ∷ rule.Meaning ∷ []
own_rules (NoMember o set) = rule.NotOpen ∷ rule.Meaning ∷ []

-- the rules of an entry, in the order in which they are tried: in the second format none splits a send
abbrev pub rules_of : Format → Entry → List Rule
rules_of One e = own_rules e
rules_of Two e = rule.Split ∷ own_rules e

-- ---- starts

-- an object as sender has posted this request to the object under this number
abbrev pub IsPosted : List Entry → ℕ → ℕ → Request → Sender → Type 0
IsPosted J o n r (Operator k) = Unit {0}
IsPosted J o n r (Object a) = slice_get (posts_between a o J) n ≡ Some r

-- an operator as sender asks for an action of the object's class, with its arguments
abbrev pub IsRequest : Domain → ℕ → Request → Sender → Type 0
IsRequest d o r (Operator k) = ArgumentsAre d o r.action r.args
IsRequest d o r (Object a) = Unit {0}

-- a start keeps a rule
abbrev pub StartKeeps : Domain → List Entry → ℕ → ℕ → Request → Rule → Type 0
StartKeeps d J o n r rule.Killed = is_killed o J ≡ false
StartKeeps d J o n r rule.Open = open_at o J ≡ None
StartKeeps d J o n r rule.Number = n ≡ length (from_sender r.sender (starts_at o J))
StartKeeps d J o n r rule.NotSent = IsPosted J o n r r.sender
StartKeeps d J o n r rule.BadRequest = IsRequest d o r r.sender
StartKeeps d J o n r other = Unit {0}

-- ---- posts

-- a post is answered `Dead` exactly if its target is killed
abbrev pub TellsTheDead : Bool → Verdict → Type 0
TellsTheDead killed (Accepted n) = killed ≡ false
TellsTheDead killed Full = killed ≡ false
TellsTheDead killed Dead = killed ≡ true

-- an accepted post has this number
abbrev pub VerdictHasNumber : ℕ → Verdict → Type 0
VerdictHasNumber count (Accepted n) = n ≡ count
VerdictHasNumber count Full = Unit {0}
VerdictHasNumber count Dead = Unit {0}

-- a post of one object to another keeps a rule
abbrev pub PostKeeps : Format → Domain → List Entry → ℕ → ℕ → Verdict → Item → Rule → Type 0
PostKeeps format d J o t v item rule.NotOpen = is_open o J ≡ true
PostKeeps format d J o t v item rule.Meaning = ShowsNext format d J o item
PostKeeps format d J o t v item rule.Dead = TellsTheDead (is_killed t J) v
PostKeeps format d J o t v item rule.Number = VerdictHasNumber (length (posts_between o t J)) v
PostKeeps format d J o t v item other = Unit {0}

-- ---- reads

-- what is next at an object is an `if` or a `wait`
abbrev pub ObjectReadsNext : Format → Domain → List Entry → ℕ → Type 0
ObjectReadsNext format d J o =
    (readings : List Reading) × ShowsNext format d J o (Saw (record { sets = sets_after d J; readings = readings }))

-- a wait keeps a rule
abbrev pub WaitKeeps : Format → Domain → List Entry → ℕ → Rule → Type 0
WaitKeeps format d J o rule.NotOpen = is_open o J ≡ true
WaitKeeps format d J o rule.Meaning = ObjectReadsNext format d J o
WaitKeeps format d J o rule.Clear = WaitsToRead format d J o
WaitKeeps format d J o other = Unit {0}

-- a state that was read is the object's state
abbrev pub IsStateNow : Domain → List Entry → Reading → Type 0
IsStateNow d J r = r.state ≡ state_of d r.object J

-- what an object has seen keeps a rule
abbrev pub SeenKeeps : Format → Domain → List Entry → ℕ → List Reading → Rule → Type 0
SeenKeeps format d J o readings rule.NotOpen = is_open o J ≡ true
SeenKeeps format d J o readings rule.Meaning =
    ShowsNext format d J o (Saw (record { sets = sets_after d J; readings = readings }))
SeenKeeps format d J o readings rule.Busy = list_all (is_clear_for J o) readings ≡ true
SeenKeeps format d J o readings rule.Reading = All (IsStateNow d J) readings
SeenKeeps format d J o readings other = Unit {0}

-- ---- ends

-- an action may end so, by what its object's state declares: it is skipped exactly if it is not declared there, and
-- ends in a state if a device does it, or if its block ends in that state
abbrev pub EndMeans : Format → Domain → List Entry → ℕ → ActionEnd → Type 0
EndMeans format d J o Skipped = running_at format d o J ≡ None
EndMeans format d J o (State s) =
    MatchBool (associated_at d o) (is_some (running_at format d o J) ≡ true) (BlockEnds format d J o s)

-- where a device ends it, it is in a state of the object's class
abbrev pub EndsInState : Domain → ℕ → ActionEnd → Type 0
EndsInState d o Skipped = Unit {0}
EndsInState d o (State s) = MatchBool (associated_at d o) (is_state_of d o s ≡ true) (Unit {0})

-- an end keeps a rule
abbrev pub EndKeeps : Format → Domain → List Entry → ℕ → ActionEnd → Rule → Type 0
EndKeeps format d J o r rule.NotOpen = is_open o J ≡ true
EndKeeps format d J o r rule.Meaning = EndMeans format d J o r
EndKeeps format d J o r rule.NotAState = EndsInState d o r
EndKeeps format d J o r other = Unit {0}

-- ---- kills

-- a kill keeps a rule
abbrev pub KillKeeps : Domain → List Entry → ℕ → Cause → Rule → Type 0
KillKeeps d J o c rule.Killed = is_killed o J ≡ false
KillKeeps d J o c rule.NotOpen = MayKill d J o c
KillKeeps d J o c other = Unit {0}

-- ---- sets

-- that a set is changed, or has no member, keeps a rule
abbrev pub SetKeeps : Format → Domain → List Entry → ℕ → Item → Rule → Type 0
SetKeeps format d J o item rule.NotOpen = is_open o J ≡ true
SetKeeps format d J o item rule.Meaning = InTwo format (ShowsNext format d J o item)
SetKeeps format d J o item other = Unit {0}

-- ---- entries

-- an entry that follows a journal keeps a rule of its kind
abbrev pub OwnKeeps : Format → Domain → List Entry → Entry → Rule → Type 0
OwnKeeps format d J (Start o s n a args) r = StartKeeps d J o n (record { sender = s; action = a; args = args }) r
OwnKeeps format d J (Post o t v a args) r = PostKeeps format d J o t v (Sent (sets_after d J) t v a args) r
OwnKeeps format d J (Wait o) r = WaitKeeps format d J o r
OwnKeeps format d J (Seen o readings) r = SeenKeeps format d J o readings r
OwnKeeps format d J (End o how) r = EndKeeps format d J o how r
OwnKeeps format d J (Kill o c) r = KillKeeps d J o c r
OwnKeeps format d J (Insert o member set) r = SetKeeps format d J o (Turned true member set) r
OwnKeeps format d J (Remove o member set) r = SetKeeps format d J o (Turned false member set) r
OwnKeeps format d J (NoMember o set) r = SetKeeps format d J o (HadNone (sets_after d J) set) r

-- it keeps a rule
abbrev pub Keeps : Format → Domain → List Entry → Entry → Rule → Type 0
Keeps format d J e rule.Split = SplitsNone d J e
Keeps format d J e other = OwnKeeps format d J e other

-- it keeps each of these rules
abbrev pub KeepsAll : Format → Domain → List Entry → Entry → List Rule → Type 0
KeepsAll format d J e [] = Unit {0}
KeepsAll format d J e (r ∷ rs) = Keeps format d J e r × KeepsAll format d J e rs

-- of these rules it breaks this one first: it is broken, and those before it are kept
abbrev pub BreaksFirst : Format → Domain → List Entry → Entry → List Rule → Rule → Type 0
BreaksFirst format d J e [] x = ⊥
BreaksFirst format d J e (r ∷ rs) x =
    ((x ≡ r) × ¬ Keeps format d J e r) ⊎ (Keeps format d J e r × BreaksFirst format d J e rs x)

-- of its own rules
abbrev pub Breaks : Format → Domain → List Entry → Entry → Rule → Type 0
Breaks format d J e x = BreaksFirst format d J e (rules_of format e) x
