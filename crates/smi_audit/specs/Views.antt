-- What contracts see of a track, and of a past.
use Rattle.std.specs.Prelude.{List, Option}
use Rattle.sml_domain.specs.declared.value.Value.{Value}
use Rattle.smi_journal_entries.specs.declared.journal.Format.{Format}
use Rattle.smi_ledger.specs.Views.{BooksView}
use Rattle.smi_audit_follower.specs.Following.{FollowerView}
use Rattle.smi_audit.specs.declared.calls.Call.{Call}

-- the parameters of an object, the follower of what runs there, and what it asked of each object
pub record TrackView : Type 0 where
  pub params : List Value
  pub follower : Option FollowerView
  pub calls : List (List Call)

-- the entries of a journal with their books, and the format in which they are judged
pub record PastView : Type 0 where
  pub format : Format
  pub books : BooksView
