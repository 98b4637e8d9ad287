-- Worlds of boards, and how they change.
use Rattle.std.proofs.Common.{◌≡◌, ◌≢◌, ◌<◌, ◌-◌, ℕ, List, [], ◌∷◌, ◌++◌, length, length-append, refl, sym, ap, ◌∙◌, arith}
use Rattle.sml_domain.specs.Domain.{Domain}
use Rattle.smi_journal_entries.specs.declared.entry.Entry.{Entry}
use Rattle.smi_journal_entries.specs.Requests.{Request}
use Rattle.smi_journal_entries.specs.Words.{starts_at}
use Rattle.smi_meaning.specs.Meaning.{Move}
use Rattle.smi_mail_plain.specs.Boxes.{PlainView, taken_at, waiting_at}
use Rattle.smi_board.specs.Boards.{BoardView}
use Rattle.smi_world.specs.World.{World, list_at, put_at, queue, moves_of, waiting, grown, noted, moved, turned}
use Rattle.smi_core.specs.Listed.{listed_below}
use Rattle.smi_core.specs.Machines.{Tasks, queue_in, moves_at, world_of}
use Rattle.smi_core.proofs.Listed.{listed_at, listed_same, listed_set}

-- a world of its parts
abbrev pub world_in : ℕ → List Entry → (ℕ → List Request) → (ℕ → List Move) → World
world_in n J queues moves = record { journal = J; arrived = listed_below n queues; moves = listed_below n moves }

pub queue_is : (b : BoardView PlainView) (tasks : Tasks) (o : ℕ) → o < length b.domain.objects → queue o (world_of b tasks) ≡ queue_in b.mail o
queue_is b tasks o lt = listed_at (length b.domain.objects) (queue_in b.mail) o [] lt

pub moves_are : (b : BoardView PlainView) (tasks : Tasks) (o : ℕ) → o < length b.domain.objects → moves_of o (world_of b tasks) ≡ moves_at b.kept tasks o
moves_are b tasks o lt = listed_at (length b.domain.objects) (moves_at b.kept tasks) o [] lt

-- what is behind a prefix
pub behind_front : (xs ys zs : List Request) → xs ≡ zs → length (xs ++ ys) - length zs ≡ length ys
behind_front xs ys zs e = omega (arith, length-append xs ys, ap length e)

pub waiting_is : (b : BoardView PlainView) (tasks : Tasks) (o : ℕ) → o < length b.domain.objects → taken_at b.mail o ≡ starts_at o b.journal → waiting o (world_of b tasks) ≡ length (waiting_at b.mail o)
waiting_is b tasks o lt taken =
    ap (λ (q : List Request). length q - length (starts_at o b.journal)) (queue_is b tasks o lt)
    ∙ behind_front (taken_at b.mail o) (waiting_at b.mail o) (starts_at o b.journal) taken

-- equal parts make equal worlds
abbrev pub world_by : List Entry → List (List Request) → List (List Move) → World
world_by J A M = record { journal = J; arrived = A; moves = M }

pub worlds_same : {J K : List Entry} {A B : List (List Request)} {M N : List (List Move)} → J ≡ K → A ≡ B → M ≡ N → world_by J A M ≡ world_by K B N
worlds_same p q r = λ i. record { journal = p i; arrived = q i; moves = r i }

-- one element more in the list of an object
pub listed_put : {A : Type 0} → (n : ℕ) (f g : ℕ → List A) (o : ℕ) (x : A) → o < n → g o ≡ f o ++ x ∷ [] → ((y : ℕ) → y < n → y ≢ o → g y ≡ f y) → listed_below n g ≡ put_at (listed_below n f) o x
listed_put n f g o x lt here others = listed_set n f g o (list_at (listed_below n f) o ++ x ∷ []) lt (here ∙ ap (λ l. l ++ x ∷ []) (sym (listed_at n f o [] lt))) others

-- a list of another domain's length
pub listed_of : {A : Type 0} → (d e : Domain) (f : ℕ → A) → d ≡ e → listed_below (length d.objects) f ≡ listed_below (length e.objects) f
listed_of d e f is = ap (λ (x : Domain). listed_below (length x.objects) f) is

-- the queues of a board are those of another
abbrev pub SameQueues : BoardView PlainView → BoardView PlainView → Type 0
SameQueues b b2 = (o : ℕ) → o < length b.domain.objects → queue_in b2.mail o ≡ queue_in b.mail o

module _ (b b2 : BoardView PlainView) (tasks tasks2 : Tasks) (same : b2.domain ≡ b.domain) where
  pub arrived_same : SameQueues b b2 → (world_of b2 tasks2).arrived ≡ (world_of b tasks).arrived
  arrived_same h = listed_of b2.domain b.domain (queue_in b2.mail) same ∙ listed_same (length b.domain.objects) (queue_in b2.mail) (queue_in b.mail) h

  -- nothing changed
  pub world_kept : b2.journal ≡ b.journal → SameQueues b b2 → ((o : ℕ) → o < length b.domain.objects → moves_at b2.kept tasks2 o ≡ moves_at b.kept tasks o) → world_of b2 tasks2 ≡ world_of b tasks
  world_kept entries queues moves = worlds_same entries (arrived_same queues)
      (listed_of b2.domain b.domain (moves_at b2.kept tasks2) same ∙ listed_same (length b.domain.objects) (moves_at b2.kept tasks2) (moves_at b.kept tasks) moves)

  -- an entry was added
  pub world_noted : (e : Entry) → b2.journal ≡ b.journal ++ e ∷ [] → SameQueues b b2 → ((o : ℕ) → o < length b.domain.objects → moves_at b2.kept tasks2 o ≡ moves_at b.kept tasks o) → world_of b2 tasks2 ≡ noted (world_of b tasks) e
  world_noted e entries queues moves = worlds_same entries (arrived_same queues)
      (listed_of b2.domain b.domain (moves_at b2.kept tasks2) same ∙ listed_same (length b.domain.objects) (moves_at b2.kept tasks2) (moves_at b.kept tasks) moves)

  -- an entry was added that begins or closes an action
  pub world_turned : (e : Entry) (o : ℕ) → o < length b.domain.objects → b2.journal ≡ b.journal ++ e ∷ [] → SameQueues b b2 → moves_at b2.kept tasks2 o ≡ [] → ((x : ℕ) → x < length b.domain.objects → x ≢ o → moves_at b2.kept tasks2 x ≡ moves_at b.kept tasks x) → world_of b2 tasks2 ≡ turned (world_of b tasks) o e
  world_turned e o lt entries queues here others = worlds_same entries (arrived_same queues)
      (listed_of b2.domain b.domain (moves_at b2.kept tasks2) same ∙ listed_set (length b.domain.objects) (moves_at b.kept tasks) (moves_at b2.kept tasks2) o [] lt here others)

  -- a request was accepted
  pub world_grown : (o : ℕ) (r : Request) → o < length b.domain.objects → b2.journal ≡ b.journal → queue_in b2.mail o ≡ queue_in b.mail o ++ r ∷ [] → ((x : ℕ) → x < length b.domain.objects → x ≢ o → queue_in b2.mail x ≡ queue_in b.mail x) → ((x : ℕ) → x < length b.domain.objects → moves_at b2.kept tasks2 x ≡ moves_at b.kept tasks x) → world_of b2 tasks2 ≡ grown (world_of b tasks) o r
  world_grown o r lt entries here others moves = worlds_same entries
      (listed_of b2.domain b.domain (queue_in b2.mail) same ∙ listed_put (length b.domain.objects) (queue_in b.mail) (queue_in b2.mail) o r lt here others)
      (listed_of b2.domain b.domain (moves_at b2.kept tasks2) same ∙ listed_same (length b.domain.objects) (moves_at b2.kept tasks2) (moves_at b.kept tasks) moves)

-- a move more of an object
pub world_moved : (n : ℕ) (J : List Entry) (queues : ℕ → List Request) (f g : ℕ → List Move) (o : ℕ) (x : Move) → o < n → g o ≡ f o ++ x ∷ [] → ((y : ℕ) → y < n → y ≢ o → g y ≡ f y) → world_in n J queues g ≡ moved (world_in n J queues f) o x
world_moved n J queues f g o x lt here others = worlds_same refl refl (listed_put n f g o x lt here others)
