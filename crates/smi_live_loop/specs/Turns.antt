-- What a manager does, turn by turn.
use Rattle.std.specs.Prelude.{◌≡◌, ℕ, Bool, List, [], ◌∷◌, ◌++◌, Option, Some, None, is_none, is_some, option_map, option_to_list, map}
use Rattle.std.specs.List.{concat, flat_map}
use Rattle.std.specs.Io.KnownBytes.{Appends}
use Rattle.smi_live_loop.specs.declared.feed.Fed.{Fed}
use Rattle.smi_live_loop.specs.declared.feed.Fed.TheVariants.{Line, Asked, Nothing, End, Failed}
use Rattle.smi_live_loop.specs.Feeding.{Heard}

-- a line that came, and the text that is kept of it in the log: whole lines, or nothing
pub record Came : Type 0 where
  pub asked : List ℕ
  pub kept : List ℕ

-- a turn: the text that is kept of a step that the manager makes by itself, or None if all rests; and then the line
-- that came, if one did
pub record Turn : Type 0 where
  pub own : Option (List ℕ)
  pub came : Option Came

-- what is heard of the feed in a turn, which may wait only if all rests
abbrev pub heard_in : Turn → Heard
heard_in t = record { may_wait = is_none t.own; line = option_map (λ (c : Came). c.asked) t.came }

-- the text that is kept of the line that came, if one came
abbrev pub kept_of : Option Came → List (List ℕ)
kept_of None = []
kept_of (Some c) = c.kept ∷ []

-- the texts that are kept of a turn
abbrev pub turn_texts : Turn → List (List ℕ)
turn_texts t = option_to_list t.own ++ kept_of t.came

-- what came is the line that a feed answered, if it answered one
abbrev pub IsLineOf : Fed → Option Came → Type 0
IsLineOf (Line line) None = ⊥
IsLineOf (Line line) (Some c) = c.asked ≡ line.items
IsLineOf Asked came = came ≡ None
IsLineOf Nothing came = came ≡ None
IsLineOf End came = came ≡ None
IsLineOf Failed came = came ≡ None

-- the first half of a turn: a step of the machine's own was made, or none
abbrev pub HasMoved : Option (List ℕ) → Bool → Type 0
HasMoved own has_moved = is_some own ≡ has_moved

-- what was heard in a turn, by what the feed answered: if it failed, no line came, and nothing is noted
abbrev pub TurnHears : Fed → Turn → List Heard → List Heard → Type 0
TurnHears (Line line) t heard heard2 = heard2 ≡ heard ++ heard_in t ∷ []
TurnHears Asked t heard heard2 = heard2 ≡ heard ++ heard_in t ∷ []
TurnHears Nothing t heard heard2 = heard2 ≡ heard ++ heard_in t ∷ []
TurnHears End t heard heard2 = heard2 ≡ heard ++ heard_in t ∷ []
TurnHears Failed t heard heard2 = (t.came ≡ None) × (heard2 ≡ heard)

-- the texts that are kept of turns
abbrev pub texts_in : List Turn → List (List ℕ)
texts_in ts = flat_map turn_texts ts

-- the text of a log: one after another
abbrev pub log_text : List (List ℕ) → List ℕ
log_text texts = concat texts

-- a machine of lines. In m something is done of which kept is kept, which writes out, and which leads to m2
-- (makes m kept out m2); it is a step of the machine's own (is_own m kept m2), or what a line that came asked
-- (takes m asked kept out m2); nothing is left to do (rests m)
module _ {S : Type 0} (makes : S → List ℕ → List ℕ → S → Type 0) (is_own : S → List ℕ → S → Type 0)
    (takes : S → List ℕ → List ℕ → List ℕ → S → Type 0) (rests : S → Type 0) where
  -- the first half of a turn
  abbrev pub First : S → Option (List ℕ) → List ℕ → S → Type 0
  First m (Some kept) out m2 = makes m kept out m2 × is_own m kept m2
  First m None out m2 = rests m × (out ≡ []) × (m2 ≡ m)

  -- the second half
  abbrev pub Second : S → Option Came → List ℕ → S → Type 0
  Second m (Some c) out m2 = makes m c.kept out m2 × takes m c.asked c.kept out m2
  Second m None out m2 = (out ≡ []) × (m2 ≡ m)

  -- a turn
  pub record RunsTurn (m : S) (t : Turn) (out : List ℕ) (m2 : S) : Type 0 where
    pub mid : S
    pub one : List ℕ
    pub two : List ℕ
    pub first : First m t.own one mid
    pub second : Second mid t.came two m2
    pub both : out ≡ one ++ two

  -- turns one after another, with what they write
  abbrev pub RunsTurns : S → List Turn → List ℕ → S → Type 0
  RunsTurns m [] out m2 = (out ≡ []) × (m2 ≡ m)
  RunsTurns m (t ∷ ts) out m2 =
      (mid : S) × (one : List ℕ) × (rest : List ℕ) × RunsTurn m t one mid × RunsTurns mid ts rest m2
      × (out ≡ one ++ rest)

  -- turns were made: what was heard in them, and what was written to a log and an output
  pub record Ran (m : S) (heard heard2 : List Heard) (log log2 output output2 : Option (List ℕ)) (m2 : S) : Type 0 where
    pub turns : List Turn
    pub out : List ℕ
    pub runs : RunsTurns m turns out m2
    pub hears : heard2 ≡ heard ++ map heard_in turns
    pub logs : Appends log log2 (log_text (texts_in turns))
    pub writes : Appends output output2 out
