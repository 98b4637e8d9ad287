-- What was taken of an object begins what it sent.
use Rattle.std.proofs.Common.{◌<◌, arith, length}
use Rattle.smi_mail.proofs.Boards.{begins_at}
use Rattle.smi_mail.proofs.ruled_mail.RuledMailMail.in_order.Goals as goal

pub returns-clause-begins : goal.returns-clause-begins
returns-clause-begins g c =
    let ends = c.self.inside.ends.items in
    let lt : c.get.result < length ends = omega (arith, c.self.invariant.0.wide, c.requires, c.get.ensures) in
    rw (← c.get.ensures) (begins_at _ _ _ _ ends c.args.self.now c.get.result c.index.result.now c.index.result.now c.self.invariant.0 c.self.view_is lt c.index.ensures c.in_order.ensures)
