use Rattle.std.proofs.Common.{subst}
use Rattle.smi_live.specs.Keeping.{IsRequestedIn}
use Rattle.smi_live.proofs.Cases.{is_there, on_ok, on_ok_three}
use Rattle.smi_live.proofs.Taken.{new_does, no_request_new}
use Rattle.smi_live.proofs.taking.take_request.Goals as goal

pub returns-in-Ok-Some-clause-made : goal.returns-in-Ok-Some-clause-made
returns-in-Ok-Some-clause-made g c =
    let asked = is_there c.in-Ok-Some.field-0 c.in-Ok-Some.requested c.in-Ok-Some.field-0-is in
    let r = c.in-Ok-Some.ensures in
    on_ok_three c.answer_once.result c.answer_once.ensures.told c.answer_once.ensures.kept c.answer_once.ensures.text (λ told kept text.
    new_does c.args.keeper.now c.make_request.new.keeper c.answer_once.new.keeper c.args.taken.text.now c.args.mark.now.name.now c.args.mark.now.number _ c.make_request.new.made.kept.items c.make_request.new.made.text.items _ _ c.requires.marked c.requires.new c.requires.reads (r.makes asked) (r.line asked) c.make_request.ensures.told c.answer_once.ensures.core told kept text)

pub returns-in-Ok-None-clause-takes : goal.returns-in-Ok-None-clause-takes
returns-in-Ok-None-clause-takes g c =
    let none = subst (λ q. IsRequestedIn c.make_request.new.keeper.core c.args.step.now q c.make_request.new.made.text.items) c.in-Ok-None.field-0-is c.in-Ok-None.ensures.asked in
    on_ok c.take_refused.result c.take_refused.ensures.keeps (λ e. no_request_new c.args.step.now c.args.taken.text.now _ c.requires.reads none e)
