-- The names that wait are read next.
use Rattle.std.proofs.Common.{◌∙◌, List, ap, subst, sym}
use Rattle.std.specs.Prelude.{option_map}
use Rattle.sml_domain.specs.Truth.{Reading}
use Rattle.smi_journal_entries.specs.Sets.{Sets}
use Rattle.smi_journal_entries.specs.Words.{Saw}
use Rattle.smi_meaning.specs.Shown.{ToRead}
use Rattle.smi_interp.specs.Expanded.{objects_by_names}
use Rattle.smi_audit_follower.specs.Followers.{names_asked}
use Rattle.smi_audit_follower.specs.Following.{FollowerView, Asks, MayShow, MayTell}
use Rattle.smi_audit_follower.proofs.Sights.{named_waits, none_waits, read_asked, reads_none}
use Rattle.smi_audit_follower.proofs.follower.Follower.reads.Goals as goal

pub returns-in-Some-clause-some : goal.returns-in-Some-clause-some
returns-in-Some-clause-some c =
    let f = c.self.inside in
    let is = named_waits f.task.pending c.in-Some.names.now (ap names_asked (sym c.pending.ensures.is) ∙ sym c.names_read.ensures ∙ ap (option_map (λ n. n.now)) c.in-Some.is) in
    subst (λ (v : FollowerView). (sets : Sets) → MayTell v.format v.domain sets → Asks v sets (ToRead (objects_by_names v.domain sets c.in-Some.names.now))) c.self.view_is
    (read_asked f.format f.task f.declared f.begun c.in-Some.names.now c.self.invariant c.pending.ensures.names is)

pub returns-in-None-clause-none : goal.returns-in-None-clause-none
returns-in-None-clause-none c =
    let f = c.self.inside in
    let other = none_waits f.task.pending (ap names_asked (sym c.pending.ensures.is) ∙ sym c.names_read.ensures ∙ ap (option_map (λ n. n.now)) c.in-None.is) in
    subst (λ (v : FollowerView). (sets : Sets) (readings : List Reading) → MayTell v.format v.domain sets → MayShow v (Saw (record { sets = sets; readings = readings })) → ⊥) c.self.view_is
    (reads_none f.format f.task f.declared f.begun c.self.invariant c.pending.ensures.names other)
