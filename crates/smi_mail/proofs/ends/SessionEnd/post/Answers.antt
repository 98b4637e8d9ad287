use Rattle.std.proofs.Common.{◌∙◌, ap, sym, subst}
use Rattle.crossbeam_queue.specs.Passes.{ruled_capacity}
use Rattle.smi_mail.specs.Letters.{IsFor}
use Rattle.smi_journal_entries.specs.declared.letter.Letter.{Letter}
use Rattle.smi_mail.specs.Sides.{SessionSide}
use Rattle.smi_journal_entries.specs.declared.entry.Sender.TheVariants.{Operator}
use Rattle.smi_mail.proofs.Moves.{session_sends_as}
use Rattle.smi_mail.proofs.ends.SessionEnd.post.Goals as goal

pub push_as-requires-clause-rule : goal.push_as-requires-clause-rule
push_as-requires-clause-rule g c =
    let i = c.self.invariant in
    let is = sym c.self.view_is in
    let n = c.numbered-envelope.ensures in
    session_sends_as _ _ _ _ c.numbered-envelope.result i.0.seen (ap ruled_capacity c.deref.ensures ∙ i.0.capacity) (ap (λ (e : Letter). e.sender) n ∙ c.requires.sender ∙ ap (λ (v : SessionSide). Operator v.seen.session) is)
    (rw n (subst (λ (v : SessionSide). IsFor v.seen.kind c.args.envelope) is c.requires.fits)) (ap (λ (e : Letter). e.number) n ∙ i.1)
