-- The fields of a follower, and what they keep.
use Rattle.std.specs.Prelude.{◌≡◌, ◌<◌, ℕ, List, [], ◌∷◌, Option, Some, None, length}
use Rattle.smi_journal_entries.specs.Sets.{Sets, AreOf, unchanged}
use Rattle.smi_journal_entries.specs.declared.journal.Format.{Format}
use Rattle.smi_meaning.specs.Items.{Post}
use Rattle.smi_meaning.specs.Meaning.{Wanted}
use Rattle.sml_domain.specs.Domain.{Domain}
use Rattle.sml_domain.specs.Program.{Subject, Target, ToOne, ToMembers}
use Rattle.smi_interp.specs.declared.contact.Contact.{Contact}
use Rattle.smi_interp.specs.declared.contact.Contact.TheVariants as named
use Rattle.smi_interp.specs.Expanded.{objects_by_names, posts_in}
use Rattle.smi_interp.specs.Task.{TaskView}
use Rattle.smi_audit_follower.specs.declared.follower.Begun.{Begun}
use Rattle.smi_audit_follower.specs.Following.{FollowerView, AreTellable, MayTell, seen_of}
use Rattle.smi_audit_follower.specs.Passing.{ContactStands, fresh_of}

-- a task as an action that has shown what its moves show, and some posts of a send that is begun
abbrev pub seen_by : Format → TaskView → Option Begun → FollowerView
seen_by format t None = fresh_of format t
seen_by format t (Some b) = seen_of format t b.members b.posts.items b.verdicts.items

-- a send that waits has some of its posts, which are those to its targets by these members
pub record IsPosting (format : Format) (t : TaskView) (b : Begun) : Type 0 where
  pub wanted : Wanted
  pub waits : t.pending ≡ Some (named.Send wanted)
  pub posts : b.posts.items ≡ posts_in t.domain b.members wanted
  pub some : 0 < length b.verdicts.items
  pub more : length b.verdicts.items < length b.posts.items
  pub are : AreOf t.domain b.members
  pub tells : MayTell format t.domain b.members

abbrev pub IsBegun : Format → TaskView → Option Begun → Type 0
IsBegun format t None = Unit {0}
IsBegun format t (Some b) = IsPosting format t b

-- what the fields keep
pub record IsInStep (format : Format) (t : TaskView) (declared : Sets) (begun : Option Begun) : Type 0 where
  pub stands : ContactStands format t.domain t.pending
  pub told : AreTellable format t.domain t.turn.moves
  pub declared_are : declared ≡ unchanged t.domain
  pub are : AreOf t.domain declared
  pub sending : IsBegun format t begun

-- the objects that wait to be read, where sets have these members
abbrev pub objects_asked : Domain → Sets → Option Contact → Option (List ℕ)
objects_asked d sets (Some (named.Read names)) = Some (objects_by_names d sets names)
objects_asked d sets (Some (named.Send w)) = None
objects_asked d sets (Some (named.Change add member set)) = None
objects_asked d sets (Some (named.End o)) = None
objects_asked d sets (Some (named.Local p v)) = None
objects_asked d sets None = None

-- the names that wait to be read
abbrev pub names_asked : Option Contact → Option (List Subject)
names_asked (Some (named.Read names)) = Some names
names_asked (Some (named.Send w)) = None
names_asked (Some (named.Change add member set)) = None
names_asked (Some (named.End o)) = None
names_asked (Some (named.Local p v)) = None
names_asked None = None

-- the posts of a send that waits, where sets have these members
abbrev pub posts_asked : Domain → Sets → Option Contact → Option (List Post)
posts_asked d sets (Some (named.Send w)) = Some (posts_in d sets w)
posts_asked d sets (Some (named.Read names)) = None
posts_asked d sets (Some (named.Change add member set)) = None
posts_asked d sets (Some (named.End o)) = None
posts_asked d sets (Some (named.Local p v)) = None
posts_asked d sets None = None

-- the set to which nothing is posted
abbrev pub set_without : Target → List Post → Option ℕ
set_without (ToOne o) posts = None
set_without (ToMembers set) [] = Some set
set_without (ToMembers set) (p ∷ ps) = None

-- the set to which the send that waits posts nothing, where sets have these members
abbrev pub set_asked : Domain → Sets → Option Contact → Option ℕ
set_asked d sets (Some (named.Send w)) = set_without w.target (posts_in d sets w)
set_asked d sets (Some (named.Read names)) = None
set_asked d sets (Some (named.Change add member set)) = None
set_asked d sets (Some (named.End o)) = None
set_asked d sets (Some (named.Local p v)) = None
set_asked d sets None = None

-- a send that continues where sets have these members: the one that was begun by these, or if no send was begun, the
-- one that waits
abbrev pub IsUnder : Domain → Sets → Option Contact → Option Begun → Option Begun → Type 0
IsUnder d sets p (Some b) (Some c) = (b.members ≡ sets) × (c ≡ b)
IsUnder d sets p (Some b) None = ¬ (b.members ≡ sets)
IsUnder d sets p None (Some c) =
    (posts_asked d sets p ≡ Some c.posts.items) × (c.members ≡ sets) × (c.verdicts.items ≡ [])
IsUnder d sets p None None = posts_asked d sets p ≡ None

-- a send that waits has these posts, some of which have no verdict
pub record IsOpen (format : Format) (t : TaskView) (b : Begun) : Type 0 where
  pub wanted : Wanted
  pub waits : t.pending ≡ Some (named.Send wanted)
  pub posts : b.posts.items ≡ posts_in t.domain b.members wanted
  pub more : length b.verdicts.items < length b.posts.items
  pub are : AreOf t.domain b.members
  pub tells : MayTell format t.domain b.members
