use Rattle.std.proofs.Common.{◌≡◌, ◌++◌, subst}
use Rattle.smi_journal.specs.CallText.{name_or_nothing, spaced}
use Rattle.smi_outset_text.specs.OutsetText.{member_word}
use Rattle.smi_outset_text.proofs.Words.{not_ended}
use Rattle.smi_outset_text.proofs.members.behind_member.Goals as goal

pub returns-else-ends_word : goal.returns-else-ends_word
returns-else-ends_word c =
    let text = c.args.text.now in
    let more = c.in_ok-more.more.now in
    let is : text ≡ member_word c.args.domain.now c.args.o ++ more
    = subst (λ n. text ≡ spaced (name_or_nothing n) ++ more) c.object_name.ensures c.in_ok-more.ensures in
    not_ended c.args.domain.now text c.args.o more is (λ ends. cc (c.ends_word.ensures.1 ends, c.if-ends_word.false))
