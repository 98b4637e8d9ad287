-- What the judge makes of the entries of a run.
use Rattle.std.specs.Prelude.{◌≡◌, ◌++◌, ◌∷◌, [], List}
use Rattle.sml_domain.specs.Domain.{Domain}
use Rattle.smi_journal_entries.specs.declared.entry.Entry.{Entry}
use Rattle.smi_journal_entries.specs.declared.journal.Format.TheVariants.{Two}
use Rattle.smi_journal.specs.EntryText.{line_text}
use Rattle.smi_journal.specs.HasText.{HasTextIn}
use Rattle.smi_meaning.specs.Legal.{IsLegal}
use Rattle.smi_audit.specs.Views.{PastView}

-- a past of a domain has no entries
pub record IsEmptyPast (d : Domain) (p : PastView) : Type 0 where
  pub domain : p.books.domain ≡ d
  pub format : p.format ≡ Two
  pub journal : p.books.journal ≡ []
  pub legal : IsLegal p.format p.books.domain p.books.journal

-- after an entry with the line of this one, which is legal there, a past has it after the others
pub record EntersLine (d : Domain) (e : Entry) (old new : PastView) : Type 0 where
  pub read : Entry
  pub text : HasTextIn Two d read
  pub line : line_text d read ≡ line_text d e
  pub journal : new.books.journal ≡ old.books.journal ++ read ∷ []
  pub domain : new.books.domain ≡ old.books.domain
  pub format : new.format ≡ old.format
  pub legal : IsLegal new.format new.books.domain new.books.journal
