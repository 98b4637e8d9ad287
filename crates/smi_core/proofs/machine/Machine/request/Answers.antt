-- A request, by what the board returned.
use Rattle.std.proofs.Common.{◌∙◌, ◌++◌, ◌∷◌, [], length, ap, subst}
use Rattle.smi_journal_entries.specs.Addressing.{IsAddressed}
use Rattle.smi_journal_entries.specs.Requests.{request_of}
use Rattle.smi_mail_plain.specs.Boxes.{sent_at, waiting_at}
use Rattle.smi_core.proofs.Requested.{accept_steps, address_steps, refuse_steps}
use Rattle.smi_core.proofs.machine.Machine.request.Goals as goal

pub returns-in_err-addressed : goal.returns-in_err-addressed
returns-in_err-addressed c = address_steps _ _ _ _ _ _ _ c.domain.ensures c.in_err-addressed.field-0.0 c.in_err-addressed.ensures.refused c.from_residual.result c.from_residual.ensures.1 c.requires

pub returns-in-Ok : goal.returns-in-Ok
returns-in-Ok c =
    let r = c.in_ok-addressed.addressed in
    let made : IsAddressed c.args.self.now.board.domain c.args.sender c.args.object.now c.args.action.now c.args.passed.now r.object r.action r.args r.envelope =
    subst (λ d. IsAddressed d c.args.sender c.args.object.now c.args.action.now c.args.passed.now r.object r.action r.args r.envelope) c.domain.ensures c.in_ok-addressed.ensures.made in
    accept_steps _ _ _ _ _ _ _ _ _ _ c.told.ensures c.requires made _ c.request.ensures.domain c.request.ensures.most c.request.ensures.capacity c.request.ensures.journal c.request.ensures.params c.request.ensures.kept c.request.ensures.others
    _ c.in-Ok.ensures.free
    (c.in-Ok.ensures.number ∙ ap (λ l. length (sent_at c.args.self.now.board.mail l.sender r.object)) made.is_letter)
    (c.in-Ok.ensures.last ∙ ap (λ l. waiting_at c.args.self.now.board.mail r.object ++ request_of l ∷ []) made.is_letter) c.request.ensures.taken

pub returns-in-Err : goal.returns-in-Err
returns-in-Err c =
    let r = c.in_ok-addressed.addressed in
    let made : IsAddressed c.args.self.now.board.domain c.args.sender c.args.object.now c.args.action.now c.args.passed.now r.object r.action r.args r.envelope =
    subst (λ d. IsAddressed d c.args.sender c.args.object.now c.args.action.now c.args.passed.now r.object r.action r.args r.envelope) c.domain.ensures c.in_ok-addressed.ensures.made in
    refuse_steps _ _ _ _ _ _ _ _ _ _ c.told.ensures c.requires made _ c.request.ensures.domain c.request.ensures.most c.request.ensures.capacity c.request.ensures.journal c.request.ensures.params c.request.ensures.kept c.request.ensures.others
    c.in-Err.why _ c.in-Err.ensures.refused c.request_error.ensures c.in-Err.ensures.waits c.request.ensures.taken
