-- Two journals, the second of which begins where the first has led: what the first promised holds of both together.
use Rattle.std.specs.Prelude.{◌≡◌, ◌<◌, ℕ, true, false, ◌⊎◌, List, [], ◌∷◌, ◌++◌, length}
use Rattle.sml_domain.specs.Domain.{Domain}
use Rattle.sml_domain.specs.Lookups.{members_at}
use Rattle.smi_journal_entries.specs.declared.entry.Cause.{Cause}
use Rattle.smi_journal_entries.specs.declared.entry.Entry.{Entry}
use Rattle.smi_journal_entries.specs.declared.entry.Entry.TheVariants.{Kill}
use Rattle.smi_journal_entries.specs.declared.entry.Sender.{Sender}
use Rattle.smi_journal_entries.specs.Requests.{Request, from_sender}
use Rattle.smi_journal_entries.specs.Words.{initial_of, dead_of, state_of, starts_at, is_open, is_killed}
use Rattle.smi_journal_entries.specs.Sets.{members_after}

-- a domain begins where a journal of another one has led: states and members are those after the journal
pub record GoesOn (d e : Domain) (J : List Entry) : Type 0 where
  pub objects : length e.objects ≡ length d.objects
  pub groups : length e.groups ≡ length d.groups
  pub dead : (o : ℕ) → dead_of e o ≡ dead_of d o
  pub states : (o : ℕ) → o < length d.objects → initial_of e o ≡ state_of d o J
  pub members : (set : ℕ) → set < length d.groups → members_at e set ≡ members_after d set J

-- nothing is under way: no action is open, and what was accepted is started, but where the object was killed
pub record Rests (J : List Entry) (accepted : ℕ → List Request) : Type 0 where
  pub closed : (o : ℕ) → is_open o J ≡ false
  pub done : (o : ℕ) (s : Sender) → (from_sender s (starts_at o J) ≡ from_sender s (accepted o)) ⊎ (is_killed o J ≡ true)

-- what was started is a prefix of what was accepted, for each sender and receiver
abbrev pub KeepsFronts : List Entry → (ℕ → List Request) → Type 0
KeepsFronts J accepted = (o : ℕ) (s : Sender) →
    (rest : List Request) × (from_sender s (starts_at o J) ++ rest ≡ from_sender s (accepted o))

-- what was killed before starts nothing more
abbrev pub StartsNothingKilled : List Entry → List Entry → Type 0
StartsNothingKilled J K = (o : ℕ) → is_killed o J ≡ true → starts_at o K ≡ []

-- the state of an object after the second journal is that after both
abbrev pub StatesGoOn : Type 0
StatesGoOn = (d e : Domain) (J K : List Entry) → GoesOn d e J → (o : ℕ) → o < length d.objects →
    state_of e o K ≡ state_of d o (J ++ K)

-- so are the members of a set
abbrev pub MembersGoOn : Type 0
MembersGoOn = (d e : Domain) (J K : List Entry) → GoesOn d e J → (set : ℕ)
    → members_after e set K ≡ members_after d set (J ++ K)

-- order, and each request once, across both: what both started is a prefix of what was accepted in the first and then in
-- the second
abbrev pub FrontsGoOn : Type 0
FrontsGoOn = (J K : List Entry) (first second : ℕ → List Request) → Rests J first → StartsNothingKilled J K
    → KeepsFronts J first → KeepsFronts K second → KeepsFronts (J ++ K) (λ o. first o ++ second o)

-- kills across both: where the second journal starts nothing at what the first has killed, and the first starts nothing
-- at an object after its kill, nothing starts at that object after its kill in both
abbrev pub KillsGoOn : Type 0
KillsGoOn = (front back K : List Entry) (o : ℕ) (by : Cause) → StartsNothingKilled (front ++ Kill o by ∷ back) K
    → starts_at o back ≡ [] → starts_at o (back ++ K) ≡ []

-- a domain that begins where a journal has led goes on where both have led: a third log may follow, and so on
abbrev pub GoesOnAgain : Type 0
GoesOnAgain = (d e g : Domain) (J K : List Entry) → GoesOn d e J → GoesOn e g K → GoesOn d g (J ++ K)
