-- One mailbox more is empty, as those before it.
use Rattle.std.proofs.Common.{◌≡◌, arith, refl}
use Rattle.std.specs.List.{All}
use Rattle.smi_mail_plain.specs.Boxes.{BoxView, first_box}
use Rattle.smi_mail_plain.proofs.Boxes.{all_more}
use Rattle.smi_mail_plain.proofs.plain.PlainMail.new.Goals as goal

pub loop-preserved : goal.loop-preserved
loop-preserved c =
    let n = c.objects-objects.result in
    let empty : All (λ (b : BoxView). b ≡ first_box n) c.push_reserved.new.self.items =
    all_more (λ (b : BoxView). b ≡ first_box n) c.loop.boxes.items c.push_reserved.new.self.items _ c.push_reserved.ensures.items c.loop.invariant.empty c.in_ok-new.ensures in
    record { long = omega arith; room = omega arith; empty = empty }

pub returns-clause-capacity : goal.returns-clause-capacity
returns-clause-capacity c = refl
