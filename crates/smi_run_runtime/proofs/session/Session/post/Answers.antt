use Rattle.std.proofs.Common.{◌∙◌, ap, subst, sym}
use Rattle.sml_domain.specs.Domain.{Domain}
use Rattle.smi_journal_entries.specs.Addressing.{IsAddressError, address_refusal}
use Rattle.smi_run_runtime.proofs.Refusing.{left_made, refused_made, refused_sent}
use Rattle.smi_run_runtime.proofs.session.Session.post.Goals as goal

pub returns-in_err-addressed-clause-refused : goal.returns-in_err-addressed-clause-refused
returns-in_err-addressed-clause-refused g c =
    let x = c.args.object.now in
    let y = c.args.action.now in
    let given = c.args.given.now in
    let why = c.in_err-addressed.field-0.0 in
    refused_made (address_refusal g.K.MailNames.names.domain x y given) why c.from_residual.result
    (subst (λ (d : Domain). IsAddressError (address_refusal d x y given) why) c.domain.ensures c.in_err-addressed.ensures.refused) c.from_residual.ensures.1

pub returns-in_err-addressed-clause-told : goal.returns-in_err-addressed-clause-told
returns-in_err-addressed-clause-told g c =
    left_made g.K.MailNames.names.domain c.args.object.now c.args.self.now c.in_err-addressed.field-0.0 c.from_residual.result c.from_residual.ensures.1

pub returns-clause-refused : goal.returns-clause-refused
returns-clause-refused g c =
    let x = c.args.object.now in
    let y = c.args.action.now in
    let given = c.args.given.now in
    let r = c.in_ok-addressed.addressed in
    refused_sent (address_refusal g.K.MailNames.names.domain x y given) (ap (λ (d : Domain). address_refusal d x y given) (sym c.domain.ensures) ∙ c.in_ok-addressed.ensures.made.free) r.object r.action r.args c.args.self.now c.send.new.self c.send.result c.send.ensures
