-- Sends that are begun: whose they can be, and the post that comes next.
use Rattle.std.specs.Prelude.{ℕ, Bool, true, false, List, Option, Some, None}
use Rattle.sml_domain.specs.Domain.{Domain}
use Rattle.smi_journal_entries.specs.declared.entry.Entry.{Entry}
use Rattle.smi_journal_entries.specs.declared.journal.Format.{Format}
use Rattle.smi_journal_entries.specs.declared.journal.Format.TheVariants.{One, Two}
use Rattle.smi_meaning.specs.Items.{Post}
use Rattle.smi_meaning.specs.Legal.{PostIsWithin}
use Rattle.smi_audit_follower.specs.declared.follower.Expected.{Expected}
use Rattle.smi_audit_follower.specs.declared.follower.Expected.TheVariants as expected
use Rattle.smi_audit_follower.specs.Following.{FollowerView}
use Rattle.smi_audit.specs.Tracks.{IsFollowing}

-- whether it is the second format, which has entries of sets that change and of sets without members
abbrev pub is_two : Format → Bool
is_two One = false
is_two Two = true

-- the post that is expected next, if that is one of a send that is begun
abbrev pub post_expected : Expected → Option Post
post_expected (expected.Post post) = Some post.now
post_expected (expected.Send wanted) = None
post_expected (expected.Read names) = None
post_expected (expected.Change add member set) = None
post_expected (expected.End s) = None

-- in the second format, what is followed of an object is within a send whose next post is this, or it is within none
abbrev pub IsNextPost : Option FollowerView → Option Post → Type 0
IsNextPost was (Some p) = (d : Domain) (J : List Entry) (o : ℕ) → IsFollowing Two d J o was → PostIsWithin d J o p
IsNextPost was None =
    (d : Domain) (J : List Entry) (o : ℕ) (p : Post) → IsFollowing Two d J o was → ¬ PostIsWithin d J o p
