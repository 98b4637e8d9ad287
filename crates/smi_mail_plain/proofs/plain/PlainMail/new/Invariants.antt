-- Each mailbox is empty, and there is one for each object before the turn's.
use Rattle.std.proofs.Common.{◌≡◌, ◌≤◌}
use Rattle.std.specs.Prelude.{vec_len, vec_capacity}
use Rattle.std.specs.List.{All}
use Rattle.smi_mail_plain.specs.Boxes.{BoxView, first_box}
use Rattle.smi_mail_plain.proofs.plain.PlainMail.new.Given as goal

abbrev pub invariant-loop : goal.invariant-loop
invariant-loop l = record {
  long : vec_len l.boxes ≡ l.counter;
  room : l.objects ≤ vec_capacity l.boxes;
  empty : All (λ (b : BoxView). b ≡ first_box l.objects) l.boxes.items;
}
