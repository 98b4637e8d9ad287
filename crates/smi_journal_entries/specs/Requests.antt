-- Requests, and their senders.
use Rattle.std.specs.Prelude.{ℕ, Bool, false, ◌==◌, List, filter}
use Rattle.sml_domain.specs.declared.value.Value.{Value}
use Rattle.smi_journal_entries.specs.declared.entry.Sender.{Sender}
use Rattle.smi_journal_entries.specs.declared.entry.Sender.TheVariants.{Operator, Object}
use Rattle.smi_journal_entries.specs.declared.letter.Letter.{Letter}

-- an action with complete arguments, and who asks for it
pub record Request : Type 0 where
  pub sender : Sender
  pub action : ℕ
  pub args : List Value

-- the request of a letter
abbrev pub request_of : Letter → Request
request_of l = record { sender = l.sender; action = l.action; args = l.args }

-- whether two senders are the same
abbrev pub same_sender : Sender → Sender → Bool
same_sender (Operator a) (Operator b) = a == b
same_sender (Object a) (Object b) = a == b
same_sender (Operator a) (Object b) = false
same_sender (Object a) (Operator b) = false

-- the requests of a sender, in order
abbrev pub from_sender : Sender → List Request → List Request
from_sender s requests = filter (λ (r : Request). same_sender s r.sender) requests
