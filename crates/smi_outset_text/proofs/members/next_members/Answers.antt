use Rattle.std.proofs.Common.{◌∙◌, None, Some, subst, sym}
use Rattle.sml_outset.specs.Suits.{MembersSuit}
use Rattle.smi_outset_text.specs.Reading.{ReadsWords}
use Rattle.smi_outset_text.proofs.Words.{words_behind}
use Rattle.smi_outset_text.proofs.members.next_members.Goals as goal

pub returns-in-None : goal.returns-in-None
returns-in-None c = λ members more read.
    let none : ReadsWords c.args.domain.now c.args.set c.in-Some.more.now None = rw c.in-None.is at c.in_ok-read.ensures in
    none members more (words_behind c.args.domain.now c.args.set c.args.text.now c.in-Some.more.now c.in-Some.ensures members more read)

pub returns : goal.returns
returns c = λ members more read.
    let d = c.args.domain.now in
    let set = c.args.set in
    let words = c.in-Some-read.words in
    let got : ReadsWords d set c.in-Some.more.now (Some (words.0.items, words.1.now)) = rw c.in-Some-read.is at c.in_ok-read.ensures in
    let same = got.1 members more (words_behind d set c.args.text.now c.in-Some.more.now c.in-Some.ensures members more read) in
    let suit : MembersSuit d set c.deref.result.now = subst (MembersSuit d set) (same ∙ sym c.deref.ensures.value) read.0 in
    absurd (cc (c.members_suit.ensures.1 suit, c.if-members_suit.false))
