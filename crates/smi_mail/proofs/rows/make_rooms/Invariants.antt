use Rattle.std.proofs.Common.{◌≡◌, vec_len, vec_capacity}
use Rattle.std.specs.List.{All}
use Rattle.smi_mail.specs.Drains.{IsRoom}
use Rattle.smi_mail.proofs.rows.make_rooms.Given as goal

abbrev pub invariant-loop-i : goal.invariant-loop-i
invariant-loop-i l = (vec_len l.rooms ≡ l._i) × (vec_capacity l.rooms ≡ vec_capacity l.initial.rooms) × All (IsRoom l.capacity) l.rooms.items
