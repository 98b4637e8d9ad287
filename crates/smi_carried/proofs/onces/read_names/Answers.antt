use Rattle.std.proofs.Common.{◌≡◌, ◌++◌, ◌∷◌, [], rules, subst, sym}
use Rattle.smi_carried.specs.Onces.{NextOnceIsRead, NoNextOnce, OncesMayGo, once_of_parts}
use Rattle.smi_carried.proofs.Named.{OncesGoOn, may_none, may_push, names_read, once_takes, onces_begin, onces_go_on, onces_stop}
use Rattle.smi_carried.proofs.onces.read_names.Goals as goal

pub loop-next-init : goal.loop-next-init
loop-next-init c =
    let d = c.args.domain.now in
    let text = c.args.text.now in
    let none = sym c.new-names.ensures.items in
    record {
      may = subst (OncesMayGo d) none (may_none d);
      whole = search rules;
      on = subst (λ xs. OncesGoOn d text xs text) none (onces_begin d text);
    }

pub loop-next-preserved : goal.loop-next-preserved
loop-next-preserved c =
    let d = c.args.domain.now in
    let xs = c.loop-next.names.items in
    let ys = c.push.new.self.items in
    let x = c.in_ok-once.once in
    let text = c.args.text.now in
    let rest = c.loop-next.rest.now in
    let more = c.in-Some.next.1.now in
    let inv = c.loop-next.invariant in
    let words = c.in-Some.next.0 in
    let parts = once_of_parts words.name.now words.number words.place words.what.now in
    let first : NextOnceIsRead d xs rest parts more
    = subst (λ l. NextOnceIsRead d l rest parts more) c.deref.ensures.value c.in-Some.ensures.some in
    let read : NextOnceIsRead d xs rest x more
    = subst (λ k. NextOnceIsRead d xs rest k more) (sym c.in_ok-once.ensures) first in
    let items : ys ≡ xs ++ x ∷ [] = search rules in
    record {
      may = may_push d xs ys x rest more inv.may read items;
      whole = names_read d xs ys x text rest more inv.whole read items;
      on = subst (λ zs. OncesGoOn d text zs more) (sym items)
          (onces_go_on d text xs rest c.objects.ensures.sound c.requires x more read.read inv.on);
    }

pub loop-next-smaller : goal.loop-next-smaller
loop-next-smaller c = once_takes _ _ _ _ _ c.in-Some.ensures.some

pub returns-clause-most : goal.returns-clause-most
returns-clause-most c =
    let d = c.args.domain.now in
    let rest = c.loop-next.rest.now in
    onces_stop d c.args.text.now c.loop-next.names.items rest c.loop-next.invariant.on
    (subst (λ l. NoNextOnce d l rest) c.deref.ensures.value c.in_default.ensures.none)
