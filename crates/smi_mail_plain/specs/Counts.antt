-- Counts by sender.
use Rattle.std.specs.Prelude.{ℕ, Bool, List, if◌then◌else◌}
use Rattle.std.specs.List.{slice_index_or}
use Rattle.smi_journal_entries.specs.declared.entry.Sender.{Sender}
use Rattle.smi_journal_entries.specs.declared.entry.Sender.TheVariants.{Operator, Object}

-- the sessions have the numbers 1 to 8: a table of theirs has nine places
abbrev pub session_places : ℕ
session_places = 9

-- the most that is counted
abbrev pub most_count : ℕ
most_count = 18446744073709551615

-- a count for each session and for each object
pub record CountsView : Type 0 where
  pub of_sessions : List ℕ
  pub of_objects : List ℕ

-- the count of a sender
abbrev pub count_of : CountsView → Sender → ℕ
count_of c (Operator k) = slice_index_or c.of_sessions k 0
count_of c (Object a) = slice_index_or c.of_objects a 0

-- 1 if this is so, else 0
abbrev pub one_where : Bool → ℕ
one_where b = if b then 1 else 0
