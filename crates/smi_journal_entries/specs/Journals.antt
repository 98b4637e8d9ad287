-- A journal as contracts see it.
use Rattle.std.specs.Prelude.{ℕ, List}
use Rattle.smi_journal_entries.specs.declared.entry.Entry.{Entry}

-- the most entries that a journal has room for
abbrev pub most_entries : ℕ
most_entries = 18446744073709551615

-- the entries, and for how many more room is kept
pub record JournalView : Type 0 where
  pub entries : List Entry
  pub held : ℕ
