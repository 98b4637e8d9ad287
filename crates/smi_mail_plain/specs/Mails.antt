-- What contracts say of a mail.
use Rattle.std.specs.Prelude.{◌≡◌, ◌≢◌, ◌++◌, ◌∷◌, ℕ, Bool, true, nat_lt, List, [], length, Option, Some, None}
use Rattle.sml_domain.specs.Domain.{Domain}
use Rattle.smi_journal_entries.specs.declared.entry.Sender.{Sender}
use Rattle.smi_journal_entries.specs.declared.entry.Sender.TheVariants.{Operator, Object}
use Rattle.smi_journal_entries.specs.Requests.{Request}

-- whether a sender is a session or one of the first `n` objects
abbrev pub is_known : ℕ → Sender → Bool
is_known n (Operator k) = true
is_known n (Object a) = nat_lt a n

-- whether a sender is a session or an object of a domain
abbrev pub is_sender : Domain → Sender → Bool
is_sender d s = is_known (length d.objects) s

-- the list of this object is longer by one request, and those of the others are the same
abbrev pub Grows : (ℕ → List Request) → ℕ → Request → (ℕ → List Request) → Type 0
Grows before o r after = (after o ≡ before o ++ r ∷ []) × ((x : ℕ) → x ≢ o → after x ≡ before x)

-- the lists of all objects are the same
abbrev pub Same : (ℕ → List Request) → (ℕ → List Request) → Type 0
Same before after = (x : ℕ) → after x ≡ before x

-- what waits, where that is known, with one request more in front
abbrev pub with_first : Request → Option (List Request) → Option (List Request)
with_first r None = None
with_first r (Some w) = Some (r ∷ w)

-- what waits, where that is known, with one request more at the end
abbrev pub with_last : Option (List Request) → Request → Option (List Request)
with_last None r = None
with_last (Some w) r = Some (w ++ r ∷ [])
