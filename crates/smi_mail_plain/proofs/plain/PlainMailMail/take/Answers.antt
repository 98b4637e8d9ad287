-- What is taken is mail for the object, and the mailboxes are kept.
use Rattle.std.proofs.Common.{◌≡◌, ◌<◌, true, length, ap, subst, arith}
use Rattle.std.specs.Prelude.{IfSome}
use Rattle.std.specs.Arc.{arc_value}
use Rattle.smi_journal_entries.specs.Fits.{letter_fits}
use Rattle.smi_mail_plain.specs.Mails.{is_sender}
use Rattle.smi_mail_plain.specs.Boxes.{PlainView}
use Rattle.smi_mail_plain.proofs.Boxes.{TellsTake, take_boxes, take_mail, some_fits, some_sender}
use Rattle.smi_mail_plain.proofs.plain.PlainMailMail.take.Goals as goal

pub invariant_of-self : goal.invariant_of-self
invariant_of-self c =
    let i = c.self.inside in
    let d = arc_value i.domain in
    let lt : c.get.result < length i.boxes.items = omega (arith, c.get.ensures, c.self.invariant.count, c.requires, ap (λ (m : PlainView). length m.domain.objects) c.self.view_is) in
    let tells : TellsTake c.index_mut.result.now c.take.new.self c.take.result = record { none = c.take.ensures.none; first = c.take.ensures.first; some = c.take.ensures.some } in
    take_boxes d i.capacity i.boxes.items c.get.result c.index_mut.result.now c.take.new.self c.self.invariant lt c.index_mut.ensures.value c.take.result tells

pub returns-clause-fits : goal.returns-clause-fits
returns-clause-fits c =
    let i = c.self.inside in
    let d = arc_value i.domain in
    let lt : c.get.result < length i.boxes.items = omega (arith, c.get.ensures, c.self.invariant.count, c.requires, ap (λ (m : PlainView). length m.domain.objects) c.self.view_is) in
    let tells : TellsTake c.index_mut.result.now c.take.new.self c.take.result = record { none = c.take.ensures.none; first = c.take.ensures.first; some = c.take.ensures.some } in
    let mail = take_mail d i.capacity i.boxes.items c.get.result c.index_mut.result.now c.take.new.self c.self.invariant lt c.index_mut.ensures.value c.take.result tells in
    subst (λ (m : PlainView). IfSome c.take.result (λ l. letter_fits m.domain c.args.o l ≡ true)) c.self.view_is (some_fits d _ _ c.take.result c.get.ensures mail)

pub returns-clause-sender : goal.returns-clause-sender
returns-clause-sender c =
    let i = c.self.inside in
    let d = arc_value i.domain in
    let lt : c.get.result < length i.boxes.items = omega (arith, c.get.ensures, c.self.invariant.count, c.requires, ap (λ (m : PlainView). length m.domain.objects) c.self.view_is) in
    let tells : TellsTake c.index_mut.result.now c.take.new.self c.take.result = record { none = c.take.ensures.none; first = c.take.ensures.first; some = c.take.ensures.some } in
    let mail = take_mail d i.capacity i.boxes.items c.get.result c.index_mut.result.now c.take.new.self c.self.invariant lt c.index_mut.ensures.value c.take.result tells in
    subst (λ (m : PlainView). IfSome c.take.result (λ l. is_sender m.domain l.sender ≡ true)) c.self.view_is (some_sender d _ c.take.result mail)
