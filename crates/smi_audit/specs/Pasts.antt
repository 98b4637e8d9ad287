-- What a past says.
use Rattle.std.specs.Prelude.{◌≡◌, ◌++◌, ◌∷◌, [], ℕ, List, All, None, Some, Option}
use Rattle.sml_domain.specs.Domain.{Domain}
use Rattle.smi_journal_entries.specs.declared.entry.Entry.{Entry}
use Rattle.smi_journal_entries.specs.declared.journal.Format.{Format}
use Rattle.smi_journal.specs.HasText.{HasTextIn}
use Rattle.smi_journal.specs.JournalText.{journal_text}
use Rattle.smi_meaning.specs.Legal.{IsLegal, IsLegalAt}
use Rattle.smi_interp.specs.declared.cursor.Place.{Place}
use Rattle.smi_audit_rules.specs.Judged.{IsBrokenAt}
use Rattle.smi_audit_rules.specs.Rules.{Breaks}
use Rattle.smi_audit_follower.specs.declared.follower.Expected.{Expected}
use Rattle.smi_audit_follower.specs.Following.{FollowerView}
use Rattle.smi_audit_follower.specs.Expecting.{IsExpected, WaitsAt}
use Rattle.smi_audit_follower.specs.Laws.{IsFollowed}
use Rattle.smi_audit.specs.declared.past.EntryError.{EntryError}
use Rattle.smi_audit.specs.declared.past.EntryError.TheVariants as one
use Rattle.smi_audit.specs.declared.past.PastError.{PastError}
use Rattle.smi_audit.specs.declared.past.PastError.TheVariants.{Illegal, Memory}
use Rattle.smi_audit.specs.Views.{PastView}

-- why entries cannot be replayed: this line is the first that breaks a rule, and this rule is the first that it breaks
abbrev pub IsNone : Format → Domain → List Entry → PastError → Type 0
IsNone format d J (Illegal line rule) = IsBrokenAt format d J line rule
IsNone format d J Memory = Unit {0}

-- an entry is legal behind those of a past, and a new past has it behind them
pub record PastGoesOn (old new : PastView) (e : Entry) : Type 0 where
  pub legal : IsLegalAt old.format old.books.domain old.books.journal e
  pub whole : IsLegal new.format new.books.domain new.books.journal
  pub journal : new.books.journal ≡ old.books.journal ++ e ∷ []
  pub domain : new.books.domain ≡ old.books.domain
  pub format : new.format ≡ old.format

-- why an entry does not go behind those of a past: this rule is the first that it breaks
abbrev pub IsNotEntered : PastView → Entry → EntryError → Type 0
IsNotEntered p e (one.Illegal rule) = Breaks p.format p.books.domain p.books.journal e rule
IsNotEntered p e one.Memory = Unit {0}

-- bytes are the text of a legal journal of a domain, in the format that their first line names, and this is its past
pub record IsPastOf (d : Domain) (bytes : List ℕ) (p : PastView) : Type 0 where
  pub domain : p.books.domain ≡ d
  pub texts : All (HasTextIn p.format d) p.books.journal
  pub whole : bytes ≡ journal_text p.format d p.books.journal
  pub legal : IsLegal p.format d p.books.journal

-- what runs at an object shows this next
pub record PastShows (format : Format) (d : Domain) (J : List Entry) (o : ℕ) (e : Expected) : Type 0 where
  pub follower : FollowerView
  pub followed : IsFollowed format d J o follower
  pub expected : IsExpected follower e

-- what runs at an object waits at this place
pub record PastWaitsAt (format : Format) (d : Domain) (J : List Entry) (o : ℕ) (p : Place) : Type 0 where
  pub follower : FollowerView
  pub followed : IsFollowed format d J o follower
  pub waits : WaitsAt follower p

-- what is followed shows this next
abbrev pub TrackShows : Option FollowerView → Expected → Type 0
TrackShows None e = ⊥
TrackShows (Some f) e = IsExpected f e

-- what is followed waits at this place
abbrev pub TrackWaitsAt : Option FollowerView → Place → Type 0
TrackWaitsAt None p = ⊥
TrackWaitsAt (Some f) p = WaitsAt f p
