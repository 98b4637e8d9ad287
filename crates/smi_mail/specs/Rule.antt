-- The rule of one mailbox: what holds after every step, and what each kind of step changes in whose view. The kinds
-- of step: made (`unnamed`, `view_named`); split of a session's pass (`with_session`, `session_of`); push done
-- (`after_send`); push refused, which changes nothing; pop (`HasTaken`, and `HasDrained` once all sessions have
-- ended); pop of an empty queue (`Holds`, `Settles`); join of a session's pass (`view_joined`).
use Rattle.std.specs.Prelude.{◌≡◌, ◌+◌, ◌-◌, ◌≤◌, ◌<◌, ℕ, List, [], ◌∷◌, ◌++◌, length, slice_get, slice_index_or, Option, Some, None}
use mathlib.Core.Option.{some}
use mathlib.Core.List.{IsPrefix}
use lib.ListN.{get_elem?}
use Rattle.smi_journal_entries.specs.declared.entry.Sender.{Sender}
use Rattle.smi_journal_entries.specs.declared.entry.Sender.TheVariants.{Operator, Object}
use Rattle.smi_journal_entries.specs.declared.letter.Letter.{Letter}
use Rattle.sml_domain.specs.Domain.{Domain}
use Rattle.smi_mail.specs.declared.rule.Kind.{Kind}
use Rattle.smi_mail.specs.declared.rule.BoardView.{BoardView}
use Rattle.smi_mail.specs.declared.rule.SessionView.{SessionView}
use Rattle.smi_mail.specs.declared.rule.Knows.{Knows}
use Rattle.smi_mail.specs.declared.rule.Knows.TheVariants.{Board, Session, Nothing}
use Rattle.smi_mail.specs.Letters.{letters_from, IsNumbered, IsFor, AreAllFor}

-- the domain of no object
abbrev pub no_domain : Domain
no_domain = record { objects = []; classes = []; groups = []; states = []; actions = []; blocks = [] }

-- the object of a domain
abbrev pub mailbox_kind : Domain → ℕ → Kind
mailbox_kind d o = record { domain = d; object = o }

-- the object of no domain
abbrev pub no_kind : Kind
no_kind = record { domain = no_domain; object = 0 }

-- the board's view of a mailbox that was just opened
abbrev pub opened : Kind → ℕ → BoardView
opened d n = record { kind = d; capacity = n; most = n; made = 1; taken = []; left = []; sent = []; known = [] ∷ [] }

-- the view of the first pass. Sessions have the numbers from 1 on: a session 0 is made and has ended, and sent
-- nothing.
abbrev pub unnamed : Knows
unnamed = Board (opened no_kind 0)

-- the board has taken in what every session sent
abbrev pub IsWhole : BoardView → Type 0
IsWhole b = length b.known ≡ b.made

-- What is true of a mailbox: which pass the board has, and each session; what each sender sent; what was taken.
pub record Facts : Type 0 where
  pub board : ℕ
  pub seat : ℕ → Option ℕ
  pub sent : Sender → List Letter
  pub taken : List Letter
  pub kind : Kind
  pub capacity : ℕ

-- what the board's view says is so: it names the object, what was taken, what objects sent and what ended sessions
-- sent
pub record KnowsBoard (f : Facts) (items : List Letter) (pass : ℕ) (b : BoardView) : Type 0 where
  pub here : pass ≡ f.board
  pub kind : b.kind ≡ f.kind
  pub capacity : b.capacity ≡ f.capacity
  pub taken : b.taken ++ b.left ≡ f.taken
  pub sent : (a : ℕ) → letters_from (Object a) b.sent ≡ f.sent (Object a)
  pub later : (k : ℕ) → b.made ≤ k → (f.seat k ≡ None) × (f.sent (Operator k) ≡ [])
  pub known : (k : ℕ) (xs : List Letter) → slice_get b.known k ≡ Some xs →
      (f.seat k ≡ None) × (f.sent (Operator k) ≡ xs)
  pub ended : length b.known ≤ b.made
  pub most : IsWhole b → length items ≤ b.most

-- what a session's view says is so: it names the object and what the session sent
pub record KnowsSession (f : Facts) (pass : ℕ) (s : SessionView) : Type 0 where
  pub here : f.seat s.session ≡ Some pass
  pub kind : s.kind ≡ f.kind
  pub capacity : s.capacity ≡ f.capacity
  pub sent : s.sent ≡ f.sent (Operator s.session)

-- what a view says is so; a spent one says nothing
abbrev pub IsTrueView : Facts → List Letter → ℕ → Knows → Type 0
IsTrueView f items pass (Board b) = KnowsBoard f items pass b
IsTrueView f items pass (Session s) = KnowsSession f pass s
IsTrueView f items pass Nothing = Unit {0}

-- What each sender sent is what was taken of it, followed by what the mailbox holds of it. What the mailbox holds is
-- for its object, each with its place in what its sender sent as its number, and is no more than the capacity. What
-- each view says is so.
pub record KeepsRule (items : List Letter) (views : List Knows) : Type 0 where
  pub facts : Facts
  pub balanced : (s : Sender) → letters_from s (facts.taken ++ items) ≡ facts.sent s
  pub numbered : (s : Sender) → IsNumbered (facts.sent s)
  pub fit : AreAllFor facts.kind items
  pub room : length items ≤ facts.capacity
  pub each : (pass : ℕ) (v : Knows) → get_elem? views pass ≡ some v → IsTrueView facts items pass v

-- the board's view with one letter more of an object
abbrev pub add_sent : BoardView → Letter → BoardView
add_sent b x = record b { sent = b.sent ++ x ∷ [] }

-- a session's view with one letter more
abbrev pub add_own : SessionView → Letter → SessionView
add_own s x = record s { sent = s.sent ++ x ∷ [] }

-- the board's view with one letter more taken
abbrev pub add_taken : BoardView → Letter → BoardView
add_taken b x = record b { taken = b.taken ++ x ∷ [] }

-- the board's view with what one more session sent
abbrev pub add_known : BoardView → List Letter → BoardView
add_known b xs = record b { known = b.known ++ xs ∷ [] }

-- push done: the view of the sender with one letter more; no other view changes
abbrev pub after_send : Knows → Letter → Knows
after_send (Board b) x = Board (add_sent b x)
after_send (Session s) x = Session (add_own s x)
after_send Nothing x = Nothing

-- What a pop tells the board: the letter is for this object, its number is the count of its sender's that were taken
-- before, and what was taken of an object is a prefix of what that object sent.
abbrev pub HasTaken : Knows → Letter → Knows → Type 0
HasTaken (Board b) x w = (w ≡ Board (add_taken b x)) × IsFor b.kind x
    × (x.number ≡ length (letters_from x.sender b.taken))
    × ((a : ℕ) → IsPrefix (letters_from (Object a) (b.taken ++ x ∷ [])) (letters_from (Object a) b.sent))
HasTaken (Session s) x w = Unit {0}
HasTaken Nothing x w = Unit {0}

-- what the board learns of what the mailbox holds, of an empty one that all is taken
abbrev pub Holds : Knows → List Letter → Type 0
Holds (Board b) items = (a : ℕ) →
    letters_from (Object a) b.sent ≡ letters_from (Object a) b.taken ++ letters_from (Object a) items
Holds (Session s) items = Unit {0}
Holds Nothing items = Unit {0}

-- made: the first view once the object and the capacity are known
abbrev pub view_named : Kind → ℕ → Knows → Knows
view_named d n (Board b) = Board (record b { kind = d; capacity = n; most = n })
view_named d n (Session s) = Session s
view_named d n Nothing = Nothing

-- the board's view with one session more
abbrev pub add_session : BoardView → BoardView
add_session b = record b { made = b.made + 1 }

-- the view of that session
abbrev pub new_session : BoardView → SessionView
new_session b = record { kind = b.kind; capacity = b.capacity; session = b.made; sent = [] }

-- split: the pass that is split
abbrev pub with_session : Knows → Knows
with_session (Board b) = Board (add_session b)
with_session (Session s) = Session s
with_session Nothing = Nothing

-- split: the pass that is new
abbrev pub session_of : Knows → Knows
session_of (Board b) = Session (new_session b)
session_of (Session s) = Nothing
session_of Nothing = Nothing

-- join: the board with what an ended session sent
abbrev pub view_joined : Knows → Knows → Knows
view_joined (Board b) (Session s) = Board (add_known b s.sent)
view_joined (Board b) (Board c) = Board b
view_joined (Board b) Nothing = Board b
view_joined (Session s) w = Session s
view_joined Nothing w = Nothing

-- the board after it took x from a mailbox to which nobody sends
abbrev pub drained : BoardView → Letter → BoardView
drained b x = record b { left = b.left ++ x ∷ []; most = b.most - 1 }

-- what such a pop tells the board: one letter more is left
abbrev pub HasDrained : Knows → Letter → Knows → Type 0
HasDrained (Board b) x w = (w ≡ Board (drained b x)) × (0 < b.most)
HasDrained (Session s) x w = Unit {0}
HasDrained Nothing x w = Unit {0}

-- what a sender sent, as the board knows it once it is whole
abbrev pub sent_of : BoardView → Sender → List Letter
sent_of b (Object a) = letters_from (Object a) b.sent
sent_of b (Operator k) = slice_index_or b.known k []

-- what the board learns of what the mailbox holds once it is whole
abbrev pub Settles : Knows → List Letter → Type 0
Settles (Board b) items = (s : Sender) → sent_of b s ≡ letters_from s b.taken ++ letters_from s (b.left ++ items)
Settles (Session s) items = Unit {0}
Settles Nothing items = Unit {0}
