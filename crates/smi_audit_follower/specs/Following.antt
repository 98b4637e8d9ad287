-- What an open action has shown, and what it may show next.
use Rattle.std.specs.Prelude.{◌≡◌, ◌↔◌, ℕ, List, [], ◌∷◌, ◌++◌, Option, Some, None, map}
use Rattle.std.specs.Option.{option_map_or}
use Rattle.sml_domain.specs.declared.value.Value.{Value}
use Rattle.sml_domain.specs.Program.{Program, Nothing}
use Rattle.sml_domain.specs.Domain.{Domain}
use Rattle.sml_domain.specs.Lookups.{program_at}
use Rattle.smi_journal_entries.specs.declared.entry.Verdict.{Verdict}
use Rattle.smi_journal_entries.specs.declared.letter.Letter.{Letter}
use Rattle.smi_journal_entries.specs.declared.journal.Format.{Format}
use Rattle.smi_journal_entries.specs.declared.journal.Format.TheVariants.{One, Two}
use Rattle.smi_journal_entries.specs.Sets.{Sets}
use Rattle.smi_journal_entries.specs.Words.{Item}
use Rattle.smi_meaning.specs.Items.{Post, item_of}
use Rattle.smi_meaning.specs.Environment.{Env}
use Rattle.smi_meaning.specs.Meaning.{Move, Outcome, Means, state_left}
use Rattle.smi_meaning.specs.Shown.{Question, question_in, sets_of, AreSame, shown_moves, BeginsToShow}
use Rattle.smi_meaning.specs.Quiet.{AreDeclared, AreUnchanged, heard, said_of_block}
use Rattle.smi_interp.specs.Turn.{posted_of}
use Rattle.smi_interp.specs.Task.{TaskView, this_program}

-- an action of an object that was in a state and had these parameters when it began, and what it has shown since, as a
-- journal of a format shows it
pub record FollowerView : Type 0 where
  pub format : Format
  pub domain : Domain
  pub object : ℕ
  pub state : ℕ
  pub own : List Value
  pub letter : Letter
  pub shown : List Item

-- an action that has shown nothing
abbrev pub followed : Format → Domain → ℕ → ℕ → Letter → List Value → FollowerView
followed format d o s l own =
    record { format = format; domain = d; object = o; state = s; own = own; letter = l; shown = [] }

-- the action with one more item shown
abbrev pub with_item : FollowerView → Item → FollowerView
with_item f item = record f { shown = f.shown ++ item ∷ [] }

-- the block that the object's class declares in that state for the action, as a journal of the format tells of it
abbrev pub follower_block : FollowerView → Program
follower_block f = said_of_block f.format f.domain (option_map_or this_program
    (program_at f.domain f.object f.state f.letter.action) Nothing)

-- the environment in which it began
abbrev pub follower_env : FollowerView → Env
follower_env f = record { own = f.own; given = f.letter.args }

-- after what was shown the action may show this
abbrev pub MayShow : FollowerView → Item → Type 0
MayShow f item = BeginsToShow f.domain (follower_block f) (follower_env f) (f.shown ++ item ∷ [])

-- what is shown goes by these members, if by any
abbrev pub GoesBy : Sets → Item → Type 0
GoesBy sets item = AreSame (sets_of item) (Some sets)

-- where sets have these members, the action may show exactly what answers this question
abbrev pub Asks : FollowerView → Sets → Question → Type 0
Asks f sets q = (item : Item) → GoesBy sets item → MayShow f item ↔ (question_in item ≡ q)

-- by a meaning that shows exactly what was shown, the action ends in this state and leaves its object these parameters
pub record EndsIn (f : FollowerView) (s : ℕ) (own2 : List Value) : Type 0 where
  pub moves : List Move
  pub env2 : Env
  pub outcome : Outcome
  pub means : Means f.domain (follower_block f) (follower_env f) moves env2 outcome
  pub shown : shown_moves moves ≡ f.shown
  pub state : s ≡ state_left f.state outcome
  pub params : own2 ≡ env2.own

-- the action may end in this state
abbrev pub FollowerMayEnd : FollowerView → ℕ → Type 0
FollowerMayEnd f s = (own2 : List Value) × EndsIn f s own2

-- the action continues with an item exactly if it may show that
abbrev pub FollowerGoesOn : FollowerView → Item → Option FollowerView → Type 0
FollowerGoesOn f item (Some g) = MayShow f item × (g ≡ with_item f item)
FollowerGoesOn f item None = ¬ MayShow f item

-- the moves that a journal of a format tells of: in the first no send to nobody is among them
abbrev pub said_moves : Format → List Move → List Move
said_moves One moves = heard moves
said_moves Two moves = moves

-- moves of which a journal of a format may tell: in the first they were made while sets had their declared members
abbrev pub AreTellable : Format → Domain → List Move → Type 0
AreTellable One d moves = AreUnchanged d moves
AreTellable Two d moves = Unit {0}

-- sets have members of which a journal of a format may tell: in the first the declared ones
abbrev pub MayTell : Format → Domain → Sets → Type 0
MayTell One d sets = AreDeclared d sets
MayTell Two d sets = Unit {0}

-- a task, and the verdicts on the first of the posts that it waits for, as an action that has shown them all
abbrev pub seen_of : Format → TaskView → Sets → List Post → List Verdict → FollowerView
seen_of format t sets posts verdicts = record {
  format = format;
  domain = t.domain;
  object = t.turn.object;
  state = t.turn.state;
  own = t.turn.start;
  letter = t.turn.letter;
  shown = shown_moves (said_moves format t.turn.moves) ++ map (item_of sets) (posted_of posts verdicts);
}
