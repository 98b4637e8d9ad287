use Rattle.std.proofs.Common.{◌≡◌, ◌<◌, ◌∙◌, ap, sym, subst, arith, refl, ℕ, length}
use Rattle.crossbeam_queue.specs.Passes.{ruled_capacity}
use Rattle.std.proofs.lemmas.List.{get_or_read}
use Rattle.smi_mail.specs.Letters.{IsFor}
use Rattle.smi_mail.specs.Sides.{BoardSide}
use Rattle.smi_mail.specs.declared.rule.Knows.{Knows}
use Rattle.smi_journal_entries.specs.declared.letter.Letter.{Letter}
use Rattle.smi_mail.specs.Rule.{after_send}
use Rattle.smi_mail.proofs.Moves.{board_sends_as}
use Rattle.smi_mail.proofs.Keeping.{end_same, end_sent}
use Rattle.smi_mail.proofs.ends.BoardEnd.post.Goals as goal

pub push_as-requires-clause-rule : goal.push_as-requires-clause-rule
push_as-requires-clause-rule g c =
    let i = c.self.invariant in
    let is = sym c.self.view_is in
    let counts = c.self.inside.counts.items in
    let place : c.get-place.result ≡ c.args.object = c.get-place.ensures in
    let known : c.args.object < length counts = omega (arith, i.wide, subst (λ (v : BoardSide). c.args.object < length v.seen.kind.domain.objects) is c.requires.object) in
    let count = get_or_read counts c.get-place.result c.index-number.result.now (omega (arith, place)) c.index-number.ensures 0 in
    let n = c.numbered-envelope.ensures in
    board_sends_as _ _ _ _ c.numbered-envelope.result c.args.object i.ties.seen (ap ruled_capacity c.deref.ensures ∙ i.ties.capacity) i.most (ap (λ (e : Letter). e.sender) n ∙ c.requires.sender) (rw n (subst (λ (v : BoardSide). IsFor v.seen.kind c.args.envelope) is c.requires.fits))
    (omega (arith, ap (λ (e : Letter). e.number) n, place, i.counted c.args.object known, count, ap (λ (k : ℕ). lib.ListN.get_or counts k 0) place))

pub invariant_of-self : goal.invariant_of-self
invariant_of-self g c =
    let i = c.self.invariant in
    let is = sym c.self.view_is in
    let counts = c.self.inside.counts.items in
    let place : c.get-place.result ≡ c.args.object = c.get-place.ensures in
    let known : c.args.object < length counts = omega (arith, i.wide, subst (λ (v : BoardSide). c.args.object < length v.seen.kind.domain.objects) is c.requires.object) in
    let count = get_or_read counts c.get-place.result c.index-number.result.now (omega (arith, place)) c.index-number.ensures 0 in
    let x = c.numbered-envelope.result in
    let n = c.numbered-envelope.ensures in
    rw place (end_sent _ _ _ _ _ i c.push_as.ensures.queue x c.args.object c.index-number.result.now (ap (λ (e : Letter). e.sender) n ∙ c.requires.sender) known (omega (arith, count, ap (λ (k : ℕ). lib.ListN.get_or counts k 0) place)) (c.in-Ok.ensures.rule ∙ ap (λ (v : Knows). after_send v x) i.ties.seen))

pub invariant_of-self-in-Err : goal.invariant_of-self-in-Err
invariant_of-self-in-Err g c = end_same _ _ _ _ _ c.self.invariant c.push_as.ensures.queue _ (c.in-Err.ensures.rule.1 ∙ c.self.invariant.ties.seen) refl refl refl refl refl refl
