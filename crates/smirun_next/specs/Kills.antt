-- What was killed in a journal, and who kills it again in the log that follows.
use Rattle.std.specs.Prelude.{ℕ, Bool, List, [], ◌∷◌, Option, Some, None, flat_map, map, slice_get}
use Rattle.std.specs.List.{range_with_len}
use Rattle.smi_journal_entries.specs.declared.entry.Cause.{Cause}
use Rattle.smi_journal_entries.specs.declared.entry.Cause.TheVariants.{By, Fault}
use Rattle.smi_journal_entries.specs.declared.entry.Entry.{Entry}
use Rattle.smi_journal_entries.specs.declared.entry.Entry.TheVariants.{Start, Post, Wait, Seen, End, Kill, Insert, Remove, NoMember}
use Rattle.smi_journal_entries.specs.Words.{is_killed, killed_at}
use Rattle.smi_log_front.specs.declared.front.FrontKill.{FrontKill}

-- the session that kills again what was killed for a cause: the one that killed it, or session 1 where a fault did
abbrev pub killer_for : Cause → ℕ
killer_for (By k) = k
killer_for Fault = 1

-- the session that kills again what an entry killed, if it is one of a kill
abbrev pub killer_in : Option Entry → ℕ
killer_in None = 1
killer_in (Some (Start x s n a args)) = 1
killer_in (Some (Post x t v a args)) = 1
killer_in (Some (Wait x)) = 1
killer_in (Some (Seen x rs)) = 1
killer_in (Some (End x r)) = 1
killer_in (Some (Kill x cause)) = killer_for cause
killer_in (Some (Insert x o set)) = 1
killer_in (Some (Remove x o set)) = 1
killer_in (Some (NoMember x set)) = 1

-- the kill of an object that the entry at a place of a journal killed, if there is a place
abbrev pub front_kill_at : List Entry → ℕ → Option ℕ → List FrontKill
front_kill_at J o None = []
front_kill_at J o (Some place) = record { object = o; session = killer_in (slice_get J place) } ∷ []

-- the kill of an object, if it was killed
abbrev pub front_kills_of : List Entry → ℕ → List FrontKill
front_kills_of J o = front_kill_at J o (killed_at o J)

-- those of all objects, of which there are so many
abbrev pub all_front_kills : List Entry → ℕ → List FrontKill
all_front_kills J n = flat_map (front_kills_of J) (range_with_len 0 n)

-- which objects were killed, of which there are so many
abbrev pub all_killed : List Entry → ℕ → List Bool
all_killed J n = map (λ o. is_killed o J) (range_with_len 0 n)
