-- Lists of letters, by sender.
use Rattle.std.specs.Prelude.{◌≡◌, ℕ, Bool, true, List, map, slice_get, Some}
use Rattle.std.specs.List.{filter, All}
use Rattle.smi_journal_entries.specs.declared.entry.Sender.{Sender}
use Rattle.smi_journal_entries.specs.declared.letter.Letter.{Letter}
use Rattle.smi_journal_entries.specs.Requests.{Request, request_of, same_sender}
use Rattle.smi_journal_entries.specs.Fits.{letter_fits}
use Rattle.smi_mail_plain.specs.Mails.{is_sender}
use Rattle.smi_mail.specs.declared.rule.Kind.{Kind}

-- whether two senders are one
abbrev pub is_same : Sender → Sender → Bool
is_same = same_sender

-- the letters of this sender
abbrev pub letters_from : Sender → List Letter → List Letter
letters_from s = filter (λ (l : Letter). is_same s l.sender)

-- what letters ask for
abbrev pub requests_in : List Letter → List Request
requests_in = map request_of

-- the place of each is its number
abbrev pub IsNumbered : List Letter → Type 0
IsNumbered xs = (k : ℕ) (e : Letter) → slice_get xs k ≡ Some e → e.number ≡ k

-- a letter of a sender of the domain, which fits the object
abbrev pub IsFor : Kind → Letter → Type 0
IsFor k l = (is_sender k.domain l.sender ≡ true) × (letter_fits k.domain k.object l ≡ true)

abbrev pub AreAllFor : Kind → List Letter → Type 0
AreAllFor d = All (IsFor d)
