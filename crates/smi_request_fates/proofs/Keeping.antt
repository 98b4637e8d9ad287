-- What is kept, as requests are watched; and room for counts.
use Rattle.std.proofs.Common.{◌≡◌, arith, ℕ, ◌+◌, ◌<◌, ◌≤◌, Bool, true, false, List, [], ◌∷◌, ◌++◌, length, length-append}
use Rattle.std.specs.Prelude.{◌==◌, if◌then◌else◌, filter, slice_set}
use Rattle.std.proofs.lemmas.List.Elements.{All-push, All-set}
use Rattle.sml_domain.specs.Domain.{Domain}
use Rattle.smi_journal_entries.specs.declared.entry.Entry.{Entry}
use Rattle.smi_journal_entries.specs.declared.entry.Entry.TheVariants.{Start, Post, Wait, Seen, End, Kill, Insert, Remove, NoMember}
use Rattle.smi_journal_entries.specs.Journals.{most_entries}
use Rattle.smi_journal_entries.specs.Words.{object_of, any_start, start_in, starts_at}
use Rattle.smi_request_fates.specs.Fates.{ends, ends_at, started_at}
use Rattle.smi_request_fates.specs.Kept.{FatesView, WatchedView, IsCame, FatesTell, RoomAt}

pub watched_tell : (d : Domain) (J : List Entry) (f : FatesView) (w : WatchedView) (room : ℕ) → FatesTell d J f → IsCame d J w → FatesTell d J (record f { watched = f.watched ++ w ∷ []; room = room })
watched_tell d J f w room h is = record { counts = h.counts; came = All-push (IsCame d J) f.watched w h.came is }

pub replaced_tell : (d : Domain) (J : List Entry) (f : FatesView) (w : WatchedView) (place : ℕ) → FatesTell d J f → IsCame d J w → FatesTell d J (record f { watched = slice_set f.watched place w })
replaced_tell d J f w place h is = record { counts = h.counts; came = All-set (IsCame d J) f.watched place w is h.came }

pub held_tell : (d : Domain) (J : List Entry) (f : FatesView) (room : ℕ) → FatesTell d J f → FatesTell d J (record f { room = room })
held_tell d J f room h = record { counts = h.counts; came = h.came }

one_start : (e : Entry) → length (any_start e) ≤ 1
one_start (Start x s n a xs) = omega arith
one_start (Post x t v a xs) = omega arith
one_start (Wait x) = omega arith
one_start (Seen x rs) = omega arith
one_start (End x r) = omega arith
one_start (Kill x c) = omega arith
one_start (Insert x u set) = omega arith
one_start (Remove x u set) = omega arith
one_start (NoMember x set) = omega arith

one_in : (b : Bool) (e : Entry) → length (if b then any_start e else []) ≤ 1
one_in true e = one_start e
one_in false e = omega arith

sums : (a b c l : ℕ) → c ≡ a + b → a ≤ 1 → b ≤ l → c ≤ l + 1
sums a b c l e f g = omega (arith, e, f, g)

more_one : (n l : ℕ) → n ≡ l + 1 → (k : ℕ) → k ≤ l + 1 → k ≤ n
more_one n l e k h = omega (arith, e, h)

starts_few : (o : ℕ) (J : List Entry) → started_at o J ≤ length J
starts_few o [] = omega arith
starts_few o (e ∷ J) =
    more_one (length (e ∷ J)) (length J) (omega arith) (started_at o (e ∷ J))
    (sums (length (start_in o e)) (started_at o J) (started_at o (e ∷ J)) (length J) (length-append (start_in o e) (starts_at o J)) (one_in (o == object_of e) e) (starts_few o J))

ends_few : (o : ℕ) (J : List Entry) → ends_at o J ≤ length J
ends_few o [] = omega arith
ends_few o (e ∷ J) = go (ends o e) (ends_few o J)
  where
    go : (b : Bool) → ends_at o J ≤ length J → length {A = Entry} (if b then e ∷ filter (ends o) J else filter (ends o) J) ≤ length (e ∷ J)
    go true h = omega (arith, h)
    go false h = omega (arith, h)

less : (k c l m : ℕ) → k ≡ c → c ≤ l → l < m → k < m
less k c l m e f g = omega (arith, e, f, g)

pub counts_have_room : (d : Domain) (J : List Entry) (f : FatesView) (o : ℕ) → FatesTell d J f → length J < most_entries → RoomAt f.counts o
counts_have_room d J f o h g c at =
    let t = h.counts o c at in (
      less c.started (started_at o J) (length J) most_entries t.started (starts_few o J) g,
      less c.ended (ends_at o J) (length J) most_entries t.ended (ends_few o J) g,
    )
