-- A contact that was made.
use Rattle.std.proofs.Common.{◌∙◌, ap, sym}
use Rattle.smi_core.proofs.Taking.{set_back, asks_taken, asks_back}
use Rattle.smi_core.proofs.machine.Machine.advance.Goals as goal

pub contact-requires-clause-taken : goal.contact-requires-clause-taken
contact-requires-clause-taken c = asks_taken _ _ _ _ c.told.ensures c.requires c.in-Ok.contact (sym c.in-None.is ∙ c.changed.ensures) c.in-Ok.ensures.ok

pub returns-in-Some : goal.returns-in-Some
returns-in-Some c =
    set_back _ _ _ _ c.told.ensures c.requires c.in-Ok.contact _ _ _ (sym c.in-Some.is ∙ c.changed.ensures) c.in-Ok.ensures.next c.in-Ok.ensures.names c.in-Ok.ensures.ok (ap (λ t. t.object) c.turn.ensures.is) c.keep-in-Some.ensures

pub returns-in-None : goal.returns-in-None
returns-in-None c = asks_back _ _ _ _ c.told.ensures c.requires c.in-Ok.contact _ _ _ (sym c.in-None.is ∙ c.changed.ensures) c.in-Ok.ensures.ok c.contact.ensures
