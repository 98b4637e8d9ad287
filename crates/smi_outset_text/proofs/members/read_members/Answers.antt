use Rattle.std.proofs.Common.{◌≡◌, ◌∙◌, ◌++◌, ◌∷◌, ◌<◌, None, [], ap, arith, length, refl, rules, subst}
use Rattle.sml_outset.specs.Suits.{MembersSuit}
use Rattle.smi_outset_text.specs.OutsetText.{outset_members_line}
use Rattle.smi_outset_text.specs.Lines.{IsBadFor, MembersOf}
use Rattle.smi_outset_text.specs.Reading.{MembersAreRead, ReadsMembers}
use Rattle.smi_outset_text.proofs.Beginning.{bad_at, begins_more}
use Rattle.smi_outset_text.proofs.Numbered.{count_push, each_push, numbered_read}
use Rattle.smi_outset_text.proofs.members.read_members.Goals as goal

pub returns-in-None-clause-fault : goal.returns-in-None-clause-fault
returns-in-None-clause-fault c =
    let d = c.args.domain.now in
    let k = c.loop-set.set in
    let rest = c.loop-set.rest.now in
    let size = ap length c.groups-sets.ensures in
    let lt : k < length d.groups = omega (arith, c.loop-set-test.true, size) in
    let none : ReadsMembers d k rest None
    = subst (λ j. ReadsMembers d j rest None) c.new.ensures (rw c.in-None.is at c.in-Ok.ensures) in
    let bad : IsBadFor d (MembersOf k) rest
    = λ one more line e. none line.members more (line.suit, e ∙ ap (λ l. l ++ more) line.says) in
    bad_at d MembersOf k (length d.groups) c.args.text.now rest lt c.loop-set.invariant.lines bad

pub loop-set-preserved : goal.loop-set-preserved
loop-set-preserved c =
    let d = c.args.domain.now in
    let k = c.loop-set.set in
    let xs = c.loop-set.found.items in
    let ys = c.push.new.self.items in
    let x = c.in-Some.next.0 in
    let text = c.args.text.now in
    let rest = c.loop-set.rest.now in
    let more = c.in-Some.next.1.now in
    let inv = c.loop-set.invariant in
    let read : MembersAreRead d k rest x more
    = subst (λ j. MembersAreRead d j rest x more) c.new.ensures (rw c.in-Some.is at c.in-Ok.ensures) in
    let items : ys ≡ xs ++ x ∷ [] = search rules in
    record {
      count = count_push xs ys k x inv.count items;
      suit = each_push (MembersSuit d) xs ys k x inv.suit read.0 inv.count items;
      whole = numbered_read (outset_members_line d) xs ys k x text rest more inv.whole read.1 inv.count items;
      lines = begins_more d MembersOf k text rest (outset_members_line d k x) more inv.lines
          (record { members = x; suit = read.0; says = refl }) read.1;
    }
