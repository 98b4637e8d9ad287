use Rattle.std.proofs.Common.{◌≡◌, ◌<◌, ap, sym, subst, arith, length}
use Rattle.smi_mail.specs.Sides.{SessionSide}
use Rattle.smi_journal_entries.specs.Fits.{letter_fits}
use Rattle.smi_mail_plain.specs.Mails.{is_sender}
use Rattle.std.proofs.Common.{true}
use Rattle.smi_mail.specs.Letters.{IsFor}
use Rattle.smi_mail.specs.declared.rule.Kind.{Kind}
use Rattle.smi_mail.proofs.Boards.{kind_in}
use Rattle.smi_mail.proofs.Operators.{operator_ends, operator_posted}
use Rattle.smi_mail.proofs.ruled_mail.OperatorEnd.post.Goals as goal

pub invariant_of-self : goal.invariant_of-self
invariant_of-self g c =
    let place : c.get.result ≡ c.args.target = c.get.ensures in
    let ends = c.self.inside.ends.items in
    let lt : c.get.result < length ends = omega (arith, c.self.invariant.wide, c.requires.target, place) in
    operator_ends _ _ _ _ ends c.args.self.now c.get.result c.index_mut.result.now c.post.new.self c.args.envelope c.self.invariant c.self.view_is lt c.index_mut.ensures.value c.post.result c.post.ensures.sent c.post.ensures.full

pub returns-clause-sent : goal.returns-clause-sent
returns-clause-sent g c =
    let place : c.get.result ≡ c.args.target = c.get.ensures in
    let ends = c.self.inside.ends.items in
    let lt : c.get.result < length ends = omega (arith, c.self.invariant.wide, c.requires.target, place) in
    rw (← place) (operator_posted _ _ _ _ ends c.args.self.now c.get.result c.index_mut.result.now c.post.new.self c.args.envelope c.self.invariant c.self.view_is lt c.index_mut.ensures.value c.post.result c.post.ensures.sent)

pub post-requires-clause-fits : goal.post-requires-clause-fits
post-requires-clause-fits g c =
    let ends = c.self.inside.ends.items in
    let lt : c.get.result < length ends = omega (arith, c.self.invariant.wide, c.requires.target, c.get.ensures) in
    let d = g.K.MailNames.names.domain in
    let kind = kind_in (λ (x : SessionSide). x.seen.kind) _ ends c.get.result c.index_mut.result.now c.self.invariant.kinds c.self.invariant.wide lt c.index_mut.ensures.value in
    subst (λ (k : Kind). IsFor k c.args.envelope) (sym kind) (ap (is_sender d) c.requires.sender, subst (λ o. letter_fits d o c.args.envelope ≡ true) (sym c.get.ensures) c.requires.fits)
