-- The mailboxes are kept by a post, and what its sender sent is longer by the request.
use Rattle.std.proofs.Common.{◌≡◌, ◌≢◌, ◌<◌, true, length, ap, sym, subst, arith, slice_set}
use Rattle.std.specs.Arc.{arc_value}
use Rattle.smi_journal_entries.specs.declared.entry.Sender.{Sender}
use Rattle.smi_journal_entries.specs.Requests.{request_of}
use Rattle.smi_journal_entries.specs.Fits.{letter_fits}
use Rattle.smi_mail_plain.specs.Mails.{is_sender, Grows, Same}
use Rattle.smi_mail_plain.specs.Boxes.{PlainView, IsMail, sent_at}
use Rattle.smi_mail_plain.proofs.Boxes.{is_box, post_boxes, post_grows, post_others}
use Rattle.smi_mail_plain.proofs.plain.PlainMailMail.post.Goals as goal

pub invariant_of-self-2 : goal.invariant_of-self-2
invariant_of-self-2 c =
    let i = c.self.inside in
    let d = arc_value i.domain in
    let b = c.index_mut-mailbox.result.now in
    let r = request_of c.args.envelope in
    let lt : c.get.result < length i.boxes.items = omega (arith, c.get.ensures, c.self.invariant.count, c.requires.target, ap (λ (m : PlainView). length m.domain.objects) c.self.view_is) in
    let box = is_box d i.capacity i.boxes.items c.get.result b c.post.new.self c.self.invariant lt c.index_mut-mailbox.ensures.value in
    let few : length b.waiting < i.capacity = omega (arith, box.few, c.if-len-self.false, c.len.ensures) in
    let mail : IsMail d c.get.result r = (
      subst (λ (m : PlainView). is_sender m.domain r.sender ≡ true) (sym c.self.view_is) c.requires.sender,
      subst (λ x. letter_fits d x c.args.envelope ≡ true) (sym c.get.ensures) (subst (λ (m : PlainView). letter_fits m.domain c.args.target c.args.envelope ≡ true) (sym c.self.view_is) c.requires.fits),
    ) in
    post_boxes d i.capacity i.boxes.items c.get.result b c.post.new.self c.self.invariant lt c.index_mut-mailbox.ensures.value r c.post.ensures.new mail few

pub returns-clause-posted : goal.returns-clause-posted
returns-clause-posted c =
    let i = c.self.inside in
    let d = arc_value i.domain in
    let b = c.index_mut-mailbox.result.now in
    let r = request_of c.args.envelope in
    let lt : c.get.result < length i.boxes.items = omega (arith, c.get.ensures, c.self.invariant.count, c.requires.target, ap (λ (m : PlainView). length m.domain.objects) c.self.view_is) in
    let after : PlainView = record { domain = d; capacity = i.capacity; boxes = slice_set i.boxes.items c.get.result c.post.new.self } in
    subst (λ (m : PlainView). Grows (sent_at m r.sender) c.args.target r (sent_at after r.sender)) c.self.view_is
    (subst (λ x. Grows (sent_at (record { domain = d; capacity = i.capacity; boxes = i.boxes.items }) r.sender) x r (sent_at after r.sender)) c.get.ensures
    (post_grows d i.capacity i.boxes.items c.get.result b c.post.new.self c.self.invariant lt c.index_mut-mailbox.ensures.value r c.post.ensures.new))

pub returns-clause-others : goal.returns-clause-others
returns-clause-others c =
    let i = c.self.inside in
    let d = arc_value i.domain in
    let b = c.index_mut-mailbox.result.now in
    let r = request_of c.args.envelope in
    let lt : c.get.result < length i.boxes.items = omega (arith, c.get.ensures, c.self.invariant.count, c.requires.target, ap (λ (m : PlainView). length m.domain.objects) c.self.view_is) in
    let after : PlainView = record { domain = d; capacity = i.capacity; boxes = slice_set i.boxes.items c.get.result c.post.new.self } in
    subst (λ (m : PlainView). (s : Sender) → s ≢ r.sender → Same (sent_at m s) (sent_at after s)) c.self.view_is
    (post_others d i.capacity i.boxes.items c.get.result b c.post.new.self c.self.invariant lt c.index_mut-mailbox.ensures.value r c.post.ensures.new)
