-- What is kept while a journal is judged, and what one more entry does.
use Rattle.std.specs.Prelude.{◌≡◌, ◌<◌, ◌++◌, ◌∷◌, [], ℕ, List, Option, Some, None, All, length}
use Rattle.std.specs.Arc.{arc_value}
use Rattle.sml_domain.specs.Domain.{Domain}
use Rattle.smi_journal_entries.specs.declared.entry.Entry.{Entry}
use Rattle.smi_journal_entries.specs.declared.journal.Format.{Format}
use Rattle.smi_journal_entries.specs.Sets.{AreOf, sets_after, unchanged}
use Rattle.smi_journal_entries.specs.Words.{object_of}
use Rattle.smi_meaning.specs.Legal.{IsLegal, IsLegalAt, MayFollow}
use Rattle.smi_audit_follower.specs.Following.{MayTell}
use Rattle.smi_audit_rules.specs.declared.rule.Rule.{Rule}
use Rattle.smi_audit_rules.specs.Rules.{Breaks, BreaksFirst, own_rules}
use Rattle.smi_audit.specs.declared.judge.Judge.{Judge}
use Rattle.smi_audit.specs.Tracks.{AreTracked}

-- the object of an entry is one of those below this number
abbrev pub IsEntryOf : ℕ → Entry → Type 0
IsEntryOf n e = object_of e < n

-- the books are of the domain, the tracks say what the journal says, and its format may tell of the members of sets
pub record JudgeIsKept (j : Judge) : Type 0 where
  pub domain : j.books.domain ≡ arc_value j.domain
  pub tracked : AreTracked j.format j.books.domain j.books.journal j.tracks.items
  pub there : All (IsEntryOf (length j.books.domain.objects)) j.books.journal
  pub tells : MayTell j.format j.books.domain (sets_after j.books.domain j.books.journal)
  pub declared : j.declared ≡ unchanged j.books.domain
  pub are : AreOf j.books.domain (unchanged j.books.domain)

-- all this, and the journal is legal
pub record JudgeIsLegal (j : Judge) : Type 0 where
  pub kept : JudgeIsKept j
  pub legal : IsLegal j.format j.books.domain j.books.journal

-- the entry was added
pub record IsAdded (old new : Judge) (e : Entry) : Type 0 where
  pub kept : JudgeIsKept new
  pub journal : new.books.journal ≡ old.books.journal ++ e ∷ []
  pub domain : new.books.domain ≡ old.books.domain
  pub format : new.format ≡ old.format

-- ---- except for the rule that no entry splits a send

-- the entry breaks this one of the rules of its kind first
abbrev pub BreaksOwn : Format → Domain → List Entry → Entry → Rule → Type 0
BreaksOwn format d J e r = BreaksFirst format d J e (own_rules e) r

-- the rule of its kind that an entry breaks first, or it may follow the journal
abbrev pub FirstBroken : Format → Domain → List Entry → Entry → Option Rule → Type 0
FirstBroken format d J e None = MayFollow format d J e
FirstBroken format d J e (Some r) = BreaksOwn format d J e r

-- the entry may follow the journal, and was added
pub record JudgeAdds (old new : Judge) (e : Entry) : Type 0 where
  pub follows : MayFollow old.format old.books.domain old.books.journal e
  pub added : IsAdded old new e

-- the rule of its kind that an entry breaks first, or it was added
abbrev pub JudgesOwn : Judge → Judge → Entry → Option Rule → Type 0
JudgesOwn old new e None = JudgeAdds old new e
JudgesOwn old new e (Some r) = BreaksOwn old.format old.books.domain old.books.journal e r

-- ---- with that rule

-- the entry is legal behind the journal, and was added
pub record AddsLegal (old new : Judge) (e : Entry) : Type 0 where
  pub legal : IsLegalAt old.format old.books.domain old.books.journal e
  pub added : IsAdded old new e

-- the rule that an entry breaks first, or it was added
abbrev pub Judges : Judge → Judge → Entry → Option Rule → Type 0
Judges old new e None = AddsLegal old new e
Judges old new e (Some r) = Breaks old.format old.books.domain old.books.journal e r
