use Rattle.std.proofs.Common.{◌≡◌, subst}
use Rattle.smi_live_once.specs.Tables.{with_last_told}
use Rattle.smi_live.proofs.Cases.{is_there}
use Rattle.smi_live.proofs.Taken.{new_again}
use Rattle.smi_live.proofs.again.request_again.Goals as goal

pub returns-in-Ok-clause-made : goal.returns-in-Ok-clause-made
returns-in-Ok-clause-made g c = λ _.
    let k = c.make_request.new.keeper in
    let name = c.args.mark.now.name.now in
    let number = c.args.mark.now.number in
    let asked = is_there c.in-Ok-Some.field-0 c.in-Ok-Some.requested c.in-Ok-Some.field-0-is in
    let r = c.in-Ok-Some.ensures in
    let told = subst (λ t. c.put.new.self.told ≡ with_last_told k.told (record { name = name; number = number; answer = t })) c.deref.ensures.value c.in-Ok.ensures.told in
    new_again c.args.keeper.now k c.put.new.self c.args.taken.text.now name number c.make_request.new.made.kept.items c.make_request.new.made.text.items c.requires.marked c.requires.new (r.makes asked) (r.line asked) c.make_request.ensures.told c.put.ensures.core told
