-- The law that a change leaves objects of the domain, each once.
use Rattle.std.proofs.Common.{subst, sym}
use Rattle.smi_journal_entries.specs.Sets.{AreOf}
use Rattle.tests_of_journals.proofs.changed_members.changed.Goals as goal

pub returns-in-Ok : goal.returns-in-Ok
returns-in-Ok c =
    let d = c.args.domain.now in
    subst (AreOf d) (sym c.in-Ok.ensures)
    (c.laws_of_members.ensures.changes d c.args.members.now c.args.change.0 c.new-object.result c.new.result
    (c.has.ensures.0 c.if-has.true) c.requires)
