-- What a follower says of the journal that it follows.
use Rattle.std.specs.Prelude.{◌≡◌, ◌↔◌, ℕ, false, true, List, Some, is_some}
use Rattle.sml_domain.specs.declared.value.Value.{Value}
use Rattle.sml_domain.specs.Domain.{Domain}
use Rattle.sml_domain.specs.Lookups.{program_at}
use Rattle.smi_journal_entries.specs.declared.entry.Entry.{Entry}
use Rattle.smi_journal_entries.specs.declared.journal.Format.{Format}
use Rattle.smi_journal_entries.specs.Sets.{sets_after}
use Rattle.smi_journal_entries.specs.Words.{Item, open_at, shown_of, state_of}
use Rattle.smi_meaning.specs.EntryLaws.{are_clear}
use Rattle.smi_meaning.specs.Legal.{ShowsNext, WaitsToRead, BlockEnds}
use Rattle.smi_meaning.specs.Params.{LeavesParams, ParamsAfter}
use Rattle.smi_meaning.specs.Shown.{ToRead}
use Rattle.smi_audit_follower.specs.Following.{FollowerView, MayShow, Asks, EndsIn, FollowerMayEnd}

-- the follower is that of what runs at an object after a journal, and has shown what the journal shows of it
pub record IsFollowed (format : Format) (d : Domain) (J : List Entry) (o : ℕ) (f : FollowerView) : Type 0 where
  pub format_is : f.format ≡ format
  pub domain : f.domain ≡ d
  pub object : f.object ≡ o
  pub state : f.state ≡ state_of d o J
  pub params : ParamsAfter format d o J f.own
  pub opened : open_at o J ≡ Some f.letter
  pub declared : is_some (program_at d o f.state f.letter.action) ≡ true
  pub shown : f.shown ≡ shown_of d o J

-- an item may be shown next exactly if the follower may show it
abbrev pub ShownIsLegal : Type 0
ShownIsLegal = (format : Format) (d : Domain) (J : List Entry) (o : ℕ) (f : FollowerView) (item : Item) →
    IsFollowed format d J o f
    → ShowsNext format d J o item ↔ MayShow f item

-- where the follower asks for objects, its object may wait exactly if one of them is not clear
abbrev pub WaitIsLegal : Type 0
WaitIsLegal = (format : Format) (d : Domain) (J : List Entry) (o : ℕ) (f : FollowerView) (objects : List ℕ)
    → IsFollowed format d J o f → Asks f (sets_after d J) (ToRead objects)
    → WaitsToRead format d J o ↔ (are_clear J o objects ≡ false)

-- what runs may end in exactly the state in which the follower may end
abbrev pub EndIsLegal : Type 0
EndIsLegal =
    (format : Format) (d : Domain) (J : List Entry) (o : ℕ) (f : FollowerView) (s : ℕ) → IsFollowed format d J o f
    → BlockEnds format d J o s ↔ FollowerMayEnd f s

-- and leaves the parameters that the follower leaves
abbrev pub EndsLeave : Type 0
EndsLeave = (format : Format) (d : Domain) (J : List Entry) (o : ℕ) (f : FollowerView) (s : ℕ) (own2 : List Value)
    → IsFollowed format d J o f → EndsIn f s own2
    → LeavesParams format d o J f.own own2
