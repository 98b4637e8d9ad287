-- How a follower keeps up with a journal that grows.
use Rattle.std.specs.Prelude.{◌≡◌, ℕ, false, true, List, [], ◌∷◌, ◌++◌, is_some}
use Rattle.sml_domain.specs.declared.value.Value.{Value}
use Rattle.sml_domain.specs.Domain.{Domain}
use Rattle.sml_domain.specs.Lookups.{program_at}
use Rattle.sml_domain.specs.Truth.{Reading}
use Rattle.smi_journal_entries.specs.declared.entry.Entry.{Entry}
use Rattle.smi_journal_entries.specs.declared.entry.Entry.TheVariants.{Post, Wait, Seen, Insert, Remove, NoMember}
use Rattle.smi_journal_entries.specs.declared.entry.Verdict.{Verdict}
use Rattle.smi_journal_entries.specs.declared.journal.Format.{Format}
use Rattle.smi_journal_entries.specs.declared.letter.Letter.{Letter}
use Rattle.smi_journal_entries.specs.Sets.{sets_after}
use Rattle.smi_journal_entries.specs.Words.{HadNone, Saw, Sent, Turned, start_of, state_of}
use Rattle.smi_meaning.specs.EntryLaws.{is_own}
use Rattle.smi_meaning.specs.Params.{ParamsAfter}
use Rattle.smi_audit_follower.specs.Following.{FollowerView, followed, with_item}
use Rattle.smi_audit_follower.specs.Laws.{IsFollowed}

-- a follower that begins follows what is started
abbrev pub StartIsFollowed : Type 0
StartIsFollowed = (format : Format) (d : Domain) (J : List Entry) (o : ℕ) (l : Letter) (own : List Value) →
    ParamsAfter format d o J own
    → is_some (program_at d o (state_of d o J) l.action) ≡ true
    → IsFollowed format d (J ++ start_of o l ∷ []) o (followed format d o (state_of d o J) l own)

-- one that continues with a post, by the members that sets have, follows it
abbrev pub PostIsFollowed : Type 0
PostIsFollowed = (format : Format) (d : Domain) (J : List Entry) (o : ℕ) (f : FollowerView) (t a : ℕ) (v : Verdict)
    (args : List Value)
    → IsFollowed format d J o f
    → IsFollowed format d (J ++ Post o t v a args ∷ []) o (with_item f (Sent (sets_after d J) t v a args))

-- one that continues with readings follows these
abbrev pub SeenIsFollowed : Type 0
SeenIsFollowed = (format : Format) (d : Domain) (J : List Entry) (o : ℕ) (f : FollowerView) (readings : List Reading)
    → IsFollowed format d J o f
    → IsFollowed format d (J ++ Seen o readings ∷ []) o
    (with_item f (Saw (record { sets = sets_after d J; readings = readings })))

-- one that continues with a set that has no member follows that
abbrev pub NoneIsFollowed : Type 0
NoneIsFollowed = (format : Format) (d : Domain) (J : List Entry) (o : ℕ) (f : FollowerView) (set : ℕ)
    → IsFollowed format d J o f
    → IsFollowed format d (J ++ NoMember o set ∷ []) o (with_item f (HadNone (sets_after d J) set))

-- one that continues with a change of a set follows it
abbrev pub InsertIsFollowed : Type 0
InsertIsFollowed = (format : Format) (d : Domain) (J : List Entry) (o : ℕ) (f : FollowerView) (member set : ℕ)
    → IsFollowed format d J o f
    → IsFollowed format d (J ++ Insert o member set ∷ []) o (with_item f (Turned true member set))

abbrev pub RemoveIsFollowed : Type 0
RemoveIsFollowed = (format : Format) (d : Domain) (J : List Entry) (o : ℕ) (f : FollowerView) (member set : ℕ)
    → IsFollowed format d J o f
    → IsFollowed format d (J ++ Remove o member set ∷ []) o (with_item f (Turned false member set))

-- a wait changes nothing of what is followed
abbrev pub WaitIsFollowed : Type 0
WaitIsFollowed = (format : Format) (d : Domain) (J : List Entry) (o : ℕ) (f : FollowerView) → IsFollowed format d J o f
    → IsFollowed format d (J ++ Wait o ∷ []) o f

-- nor does what other objects do, also to sets
abbrev pub OthersAreFollowed : Type 0
OthersAreFollowed = (format : Format) (d : Domain) (J : List Entry) (o : ℕ) (f : FollowerView) (e : Entry)
    → is_own o e ≡ false → IsFollowed format d J o f
    → IsFollowed format d (J ++ e ∷ []) o f
