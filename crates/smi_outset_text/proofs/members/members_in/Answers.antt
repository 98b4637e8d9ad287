use Rattle.std.proofs.Common.{◌≡◌, ◌∙◌, ◌++◌, ◌∷◌, Contains, Some, [], ap, drop, length, rules, subst, sym}
use Rattle.sml_domain.specs.Lookups.{may_at}
use Rattle.smi_outset_text.specs.OutsetText.{member_word}
use Rattle.smi_outset_text.specs.Reading.{MemberIsFound, NoMemberOf, WordsGoOn}
use Rattle.smi_outset_text.proofs.Numbered.{all_push, flat_read}
use Rattle.smi_outset_text.proofs.Words.{words_all, words_more, words_none}
use Rattle.smi_outset_text.proofs.members.members_in.Goals as goal

pub returns-in-None : goal.returns-in-None
returns-in-None c =
    let d = c.args.domain.now in
    let rest = c.loop-may.rest.now in
    let none : NoMemberOf d rest (may_at d c.args.set) (length (may_at d c.args.set))
    = subst (λ may. NoMemberOf d rest may (length may)) c.may_have-may.ensures.is c.in-None.ensures in
    words_none d c.objects.ensures.sound c.requires c.args.set c.args.text.now c.loop-may.members.items rest
    c.loop-may.invariant.on (c.ends_line.ensures.no (search rules)) none

pub loop-may-preserved : goal.loop-may-preserved
loop-may-preserved c =
    let d = c.args.domain.now in
    let set = c.args.set in
    let text = c.args.text.now in
    let xs = c.loop-may.members.items in
    let ys = c.push.new.self.items in
    let o = c.in-Some.next.0 in
    let rest = c.loop-may.rest.now in
    let more = c.in-Some.next.1.now in
    let inv = c.loop-may.invariant in
    let found : MemberIsFound d rest (may_at d set) (Some (o, more))
    = subst (λ may. MemberIsFound d rest may (Some (o, more))) c.may_have-may.ensures.is c.in-Some.ensures in
    let items : ys ≡ xs ++ o ∷ [] = search rules in
    record {
      may = all_push (Contains (may_at d set)) xs ys o inv.may found.0 items;
      whole = flat_read (member_word d) xs ys o text rest more inv.whole found.1.0 items;
      on = subst (λ ms. WordsGoOn d set text ms more) (sym items) (words_more d c.objects.ensures.sound c.requires set text xs rest more o inv.on found.0 found.1);
    }

pub returns : goal.returns
returns c =
    let rest = c.loop-may.rest.now in
    let last = c.split_at.result.1.now in
    let feed : rest ≡ 10 ∷ drop 1 rest = c.ends_line.ensures.yes (search rules) in
    words_all c.args.domain.now c.objects.ensures.sound c.requires c.args.set c.args.text.now c.loop-may.members.items
    rest last c.loop-may.invariant.may c.loop-may.invariant.whole c.loop-may.invariant.on
    (feed ∙ ap (λ l. 10 ∷ l) (sym c.split_at.ensures.back))
