use Rattle.std.proofs.Common.{◌∙◌, sym}
use Rattle.smi_carried.proofs.Named.{other_next}
use Rattle.smi_carried.proofs.onces.next_new.Goals as goal

pub returns-else-has_none-clause-none : goal.returns-else-has_none-clause-none
returns-else-has_none-clause-none c =
    other_next c.args.domain.now c.objects.ensures.sound c.requires c.args.before.now c.args.text.now _ _
    c.in-Some.ensures.some (sym c.has_none.ensures ∙ c.if-has_none.false)
