-- What is posted is told as the end of its mailbox tells it.
use Rattle.std.proofs.Common.{◌≡◌, ◌<◌, ◌∙◌, ap, sym, subst, arith, true, length}
use Rattle.std.proofs.lemmas.Bool.{ltb-true}
use Rattle.smi_journal_entries.specs.declared.entry.Sender.{Sender}
use Rattle.smi_journal_entries.specs.Fits.{letter_fits}
use Rattle.smi_mail.specs.declared.rule.Kind.{Kind}
use Rattle.smi_mail.specs.Letters.{IsFor}
use Rattle.smi_mail.specs.Mails.{serves_object}
use Rattle.smi_mail.proofs.Boards.{kind_at, known_sender, post_boards, post_number, post_grows, post_others, post_untaken, post_back, post_same}
use Rattle.smi_mail.proofs.ruled_mail.RuledMailMail.post.Goals as goal

pub invariant_of-self : goal.invariant_of-self
invariant_of-self g c =
    let ends = c.self.inside.ends.items in
    let lt : c.get.result < length ends = omega (arith, c.self.invariant.0.wide, c.requires.target, c.get.ensures) in
    (post_boards _ _ _ _ ends c.args.self.now c.get.result c.index_mut.result.now c.post.new.self c.self.invariant.0 c.self.view_is lt c.index_mut.ensures.value c.in-Object.object c.args.envelope c.post.result c.post.ensures.sent c.post.ensures.full, c.self.invariant.1, c.self.invariant.2)

pub returns-clause-number : goal.returns-clause-number
returns-clause-number g c =
    let ends = c.self.inside.ends.items in
    let lt : c.get.result < length ends = omega (arith, c.self.invariant.0.wide, c.requires.target, c.get.ensures) in
    rw (← c.get.ensures) (post_number _ _ _ _ ends c.args.self.now c.get.result c.index_mut.result.now c.post.new.self c.self.invariant.0 c.self.view_is lt c.index_mut.ensures.value c.in-Object.object c.args.envelope c.post.result (sym c.sender_of.ensures ∙ c.in-Object.is) c.post.ensures.sent)

pub returns-clause-posted : goal.returns-clause-posted
returns-clause-posted g c =
    let ends = c.self.inside.ends.items in
    let lt : c.get.result < length ends = omega (arith, c.self.invariant.0.wide, c.requires.target, c.get.ensures) in
    rw (← c.get.ensures) (post_grows _ _ _ _ ends c.args.self.now c.get.result c.index_mut.result.now c.post.new.self c.self.invariant.0 c.self.view_is lt c.index_mut.ensures.value c.in-Object.object c.args.envelope c.post.result (sym c.sender_of.ensures ∙ c.in-Object.is) c.post.ensures.sent)

pub returns-clause-others : goal.returns-clause-others
returns-clause-others g c =
    let ends = c.self.inside.ends.items in
    let lt : c.get.result < length ends = omega (arith, c.self.invariant.0.wide, c.requires.target, c.get.ensures) in
    post_others _ _ _ _ ends c.args.self.now c.get.result c.index_mut.result.now c.post.new.self c.self.invariant.0 c.self.view_is lt c.index_mut.ensures.value c.in-Object.object c.args.envelope c.post.result (sym c.sender_of.ensures ∙ c.in-Object.is) c.post.ensures.sent

pub returns-clause-taken : goal.returns-clause-taken
returns-clause-taken g c =
    let ends = c.self.inside.ends.items in
    let lt : c.get.result < length ends = omega (arith, c.self.invariant.0.wide, c.requires.target, c.get.ensures) in
    post_untaken _ _ _ _ ends c.args.self.now c.get.result c.index_mut.result.now c.post.new.self c.self.invariant.0 c.self.view_is lt c.index_mut.ensures.value c.in-Object.object c.args.envelope c.post.result c.post.ensures.sent c.post.ensures.full

pub returns-clause-back : goal.returns-clause-back
returns-clause-back g c =
    let ends = c.self.inside.ends.items in
    let lt : c.get.result < length ends = omega (arith, c.self.invariant.0.wide, c.requires.target, c.get.ensures) in
    post_back _ _ _ _ ends c.args.self.now c.get.result c.index_mut.result.now c.post.new.self c.self.invariant.0 c.self.view_is lt c.index_mut.ensures.value c.args.envelope c.post.result c.post.ensures.full

pub returns-clause-same : goal.returns-clause-same
returns-clause-same g c =
    let ends = c.self.inside.ends.items in
    let lt : c.get.result < length ends = omega (arith, c.self.invariant.0.wide, c.requires.target, c.get.ensures) in
    post_same _ _ _ _ ends c.args.self.now c.get.result c.index_mut.result.now c.post.new.self c.self.invariant.0 c.self.view_is lt c.index_mut.ensures.value c.args.envelope c.post.result c.post.ensures.full

pub post-requires-clause-fits : goal.post-requires-clause-fits
post-requires-clause-fits g c =
    let ends = c.self.inside.ends.items in
    let lt : c.get.result < length ends = omega (arith, c.self.invariant.0.wide, c.requires.target, c.get.ensures) in
    let i = c.self.invariant.0 in
    let kind = kind_at _ ends c.get.result c.index_mut.result.now i.kinds i.wide lt c.index_mut.ensures.value in
    let d = g.K.MailNames.names.domain in
    subst (λ (k : Kind). IsFor k c.args.envelope) (sym kind) (known_sender d _ c.requires.sender, subst (λ o. letter_fits d o c.args.envelope ≡ true) (sym c.get.ensures) c.requires.fits)

pub post-requires-clause-object : goal.post-requires-clause-object
post-requires-clause-object g c =
    let ends = c.self.inside.ends.items in
    let lt : c.get.result < length ends = omega (arith, c.self.invariant.0.wide, c.requires.target, c.get.ensures) in
    let i = c.self.invariant.0 in
    let kind = kind_at _ ends c.get.result c.index_mut.result.now i.kinds i.wide lt c.index_mut.ensures.value in
    let by : serves_object g.K.MailNames.names.domain c.sender_of.result ≡ true = ap (serves_object g.K.MailNames.names.domain) c.sender_of.ensures ∙ c.requires.sender in
    subst (λ (k : Kind). c.in-Object.object < length k.domain.objects) (sym kind) (ltb-true _ _ (subst (λ (s : Sender). serves_object g.K.MailNames.names.domain s ≡ true) c.in-Object.is by))
