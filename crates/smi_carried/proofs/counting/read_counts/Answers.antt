use Rattle.std.proofs.Common.{◌≡◌, ◌∙◌, ◌+◌, ◌++◌, ◌∷◌, [], ap, arith, length, length-append, rules, subst, sym}
use Rattle.std.proofs.lemmas.List.Elements.{All-push}
use Rattle.std.proofs.Common.{All}
use Rattle.smi_carried.specs.Counts.{CountsAreHeld, ReadsCounts}
use Rattle.smi_carried.proofs.Counted.{CountsGoOn, counts_all, counts_go_on, counts_read, counts_text_from}
use Rattle.smi_carried.proofs.counting.read_counts.Goals as goal

pub loop-o-preserved : goal.loop-o-preserved
loop-o-preserved c =
    let d = c.args.domain.now in
    let xs = c.loop-o.counts.items in
    let ys = c.push.new.self.items in
    let o = c.loop-o.o in
    let x = c.next_counts-next.result.0 in
    let text = c.args.text.now in
    let rest = c.loop-o.rest.now in
    let more = c.next_counts-next.result.1.now in
    let inv = c.loop-o.invariant in
    let read : ReadsCounts d o rest x more
    = subst (λ k. ReadsCounts d k rest x more) c.new.ensures c.next_counts-next.ensures in
    let items : ys ≡ xs ++ x ∷ [] = search rules in
    let size = ap length items ∙ length-append xs (x ∷ []) in
    let few = c.loop-o-test.true in
    let objects = c.objects-objects.ensures.count in
    let own : CountsAreHeld x = record { started = read.started.held; ended = read.ended.held } in
    record {
      count = omega (arith, size, inv.count);
      held = subst (All CountsAreHeld) (sym items) (All-push CountsAreHeld xs x inv.held own);
      whole = counts_read d text xs ys o rest x more inv.count inv.whole read items;
      on = subst (λ zs. CountsGoOn d text zs (o + 1) more) (sym items)
          (counts_go_on d c.objects-objects.ensures.sound c.requires text xs o rest x more inv.count (omega (arith, few, objects)) inv.on read);
    }

pub returns-clause-whole : goal.returns-clause-whole
returns-clause-whole c =
    c.loop-o.invariant.whole ∙ ap (λ l. l ++ c.loop-o.rest.now) (sym (counts_text_from c.args.domain.now c.loop-o.counts.items))

pub returns-clause-all : goal.returns-clause-all
returns-clause-all c =
    let d = c.args.domain.now in
    let xs = c.loop-o.counts.items in
    let text = c.args.text.now in
    let rest = c.loop-o.rest.now in
    let inv = c.loop-o.invariant in
    let full : length xs ≡ length d.objects
    = omega (arith, inv.count, c.loop-o-test.false, c.loop-o.auto.o-end, c.objects-objects.ensures.count) in
    let at : c.loop-o.o ≡ length d.objects = sym inv.count ∙ full in
    counts_all d text xs rest full (subst (λ k. CountsGoOn d text xs k rest) at inv.on)
