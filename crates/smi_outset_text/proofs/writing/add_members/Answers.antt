use Rattle.std.proofs.Common.{ap}
use Rattle.smi_outset_text.specs.OutsetText.{outset_members_line}
use Rattle.smi_outset_text.proofs.Numbered.{added_more}
use Rattle.smi_outset_text.proofs.writing.add_members.Goals as goal

pub loop-set-preserved : goal.loop-set-preserved
loop-set-preserved c =
    let f = outset_members_line c.args.domain.now in
    let x = c.index-members-set.result in
    added_more f c.args.members.now c.loop-set.set x c.args.text.now.items c.loop-set.text.items c.add_members_of.new.text.items (f c.new.result x)
    c.in_ok-add_members_of.ensures c.loop-set.invariant (ap (λ k. f k x) c.new.ensures) c.loop-set-test.true c.index-members-set.is
