use Rattle.std.proofs.Common.{◌≡◌, ◌∙◌, ap, drop, length, IfSome, subst}
use Rattle.smi_core.specs.Machines.{CoreView}
use Rattle.smi_lines.specs.Answers.{answer_text}
use Rattle.smi_live.proofs.Asked.{IsAskedOf, requested_in}
use Rattle.smi_live.proofs.making.make_asked.Goals as goal

pub returns-in-Ok-clause-asked : goal.returns-in-Ok-clause-asked
returns-in-Ok-clause-asked g c =
    let b = c.step-answer.new.self.core in
    let s = c.args.step.now in
    let r = c.step-answer.result in
    let q = c.requested_of.result in
    let text = c.tell.new.made.text.items in
    let told = subst (λ (m : CoreView). text ≡ answer_text m.setup.domain s r (drop (length c.journal-first.result.now) m.world.journal)) c.core-3.ensures c.in-Ok.ensures.text in
    let domain = c.domain.ensures ∙ ap (λ (m : CoreView). m.setup.domain) c.core-in-Ok.ensures in
    let asked = subst (λ d. IfSome q (IsAskedOf d s r)) domain c.requested_of.ensures.some in
    requested_in c.laws_of_accounts.ensures.answered c.args.keeper.now.core b s r q text _ c.reached.ensures c.step-answer.ensures.steps c.step-answer.ensures.setup told asked c.requested_of.ensures.none
