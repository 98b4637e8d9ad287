-- The follower's task has shown what its action has.
use Rattle.std.proofs.Common.{refl, subst}
use Rattle.std.specs.Prelude.{IfSome, Option, None, Some}
use Rattle.smi_journal_entries.specs.declared.journal.Format.{Format}
use Rattle.smi_interp.specs.declared.cursor.Place.{Place}
use Rattle.smi_interp.specs.Task.{IsContactAt, TaskView}
use Rattle.smi_audit_follower.specs.declared.follower.Begun.{Begun}
use Rattle.smi_audit_follower.specs.Expecting.{WaitsAt}
use Rattle.smi_audit_follower.specs.Followers.{seen_by}
use Rattle.smi_audit_follower.specs.Passing.{ContactStands}
use Rattle.smi_audit_follower.proofs.follower.Follower.place.Goals as goal

waits_at : (format : Format) (t : TaskView) (begun : Option Begun) (p : Place) → ContactStands format t.domain t.pending → IfSome t.pending (IsContactAt t p) → WaitsAt (seen_by format t begun) p
waits_at format t None p stands waits = record { task = t; begun = None; is = refl; stands = stands; waits = waits }
waits_at format t (Some b) p stands waits = record { task = t; begun = Some b; is = refl; stands = stands; waits = waits }

pub returns : goal.returns
returns c =
    let f = c.self.inside in
    subst (λ v. WaitsAt v c.place.result) c.self.view_is (waits_at f.format f.task f.begun c.place.result c.self.invariant.stands c.place.ensures)
