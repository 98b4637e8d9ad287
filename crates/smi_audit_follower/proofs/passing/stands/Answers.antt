-- Moves that show nothing, and contacts that show something.
use Rattle.std.proofs.Common.{◌≡◌, ◌∙◌, false, ap, sym}
use Rattle.smi_interp.specs.Task.{TaskView, shown}
use Rattle.smi_audit_follower.specs.Passing.{is_said}
use Rattle.smi_audit_follower.proofs.Sizes.{local_passes, send_passes, wants_none}
use Rattle.smi_audit_follower.proofs.passing.stands.Goals as goal

pub returns-in-Local : goal.returns-in-Local
returns-in-Local c =
    local_passes c.args.format c.args.task.now c.advance.new.self c.in-Local.param c.in-Local.value c.requires.idle c.requires.told
    (c.in_ok-advance.ensures.ok ∙ ap (shown c.args.task.now) c.in-Local.is) c.turn-turn.ensures.under_way

pub sent-requires-clause-waits : goal.sent-requires-clause-waits
sent-requires-clause-waits c =
    let t = c.args.task.now in
    let is = c.in_ok-advance.ensures.ok ∙ ap (shown t) c.in-Send.is in
    let domain : c.domain.result.now ≡ t.domain = c.domain.ensures ∙ ap (λ (x : TaskView). x.domain) is in
    let said : is_said c.args.format t.domain c.in-Send.wanted ≡ false = sym (c.is_said.ensures ∙ ap (λ d. is_said c.args.format d c.in-Send.wanted) domain) ∙ c.if-is_said.false in
    wants_none c.args.format t c.advance.new.self c.in-Send.wanted c.in_ok-members-in-Send.members is said (c.in_ok-members-in-Send.ensures ∙ c.requires.declared)

pub returns-in-Send : goal.returns-in-Send
returns-in-Send c =
    let t = c.args.task.now in
    let is = c.in_ok-advance.ensures.ok ∙ ap (shown t) c.in-Send.is in
    let domain : c.domain.result.now ≡ t.domain = c.domain.ensures ∙ ap (λ (x : TaskView). x.domain) is in
    let said : is_said c.args.format t.domain c.in-Send.wanted ≡ false = sym (c.is_said.ensures ∙ ap (λ d. is_said c.args.format d c.in-Send.wanted) domain) ∙ c.if-is_said.false in
    send_passes c.args.format t c.advance.new.self c.sent.new.self c.in-Send.wanted c.in_ok-members-in-Send.members c.requires.told is said (c.in_ok-members-in-Send.ensures ∙ c.requires.declared)
    c.sent.ensures c.turn-turn-in-Send.ensures.under_way
