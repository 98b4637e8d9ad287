-- What is taken is told as the end of its mailbox tells it.
use Rattle.std.proofs.Common.{◌<◌, arith, length}
use Rattle.smi_mail.proofs.Boards.{take_boards, take_grows, take_fits, take_number, take_sender, take_same, take_all, take_unsent}
use Rattle.smi_mail.proofs.ruled_mail.RuledMailMail.take.Goals as goal

pub invariant_of-self : goal.invariant_of-self
invariant_of-self g c =
    let ends = c.self.inside.ends.items in
    let lt : c.get.result < length ends = omega (arith, c.self.invariant.0.wide, c.requires, c.get.ensures) in
    (take_boards _ _ _ _ ends _ c.get.result c.index_mut.result.now c.take.new.self c.self.invariant.0 c.self.view_is lt c.index_mut.ensures.value c.take.result c.take.ensures, c.self.invariant.1, c.self.invariant.2)

pub returns-clause-some : goal.returns-clause-some
returns-clause-some g c =
    let ends = c.self.inside.ends.items in
    let lt : c.get.result < length ends = omega (arith, c.self.invariant.0.wide, c.requires, c.get.ensures) in
    rw (← c.get.ensures) (take_grows _ _ _ _ ends c.args.self.now c.get.result c.index_mut.result.now c.take.new.self c.self.invariant.0 c.self.view_is lt c.index_mut.ensures.value c.take.result c.take.ensures)

pub returns-clause-fits : goal.returns-clause-fits
returns-clause-fits g c =
    let ends = c.self.inside.ends.items in
    let lt : c.get.result < length ends = omega (arith, c.self.invariant.0.wide, c.requires, c.get.ensures) in
    rw (← c.get.ensures) (take_fits _ _ _ _ ends c.args.self.now c.get.result c.index_mut.result.now c.take.new.self c.self.invariant.0 c.self.view_is lt c.index_mut.ensures.value c.take.result c.take.ensures)

pub returns-clause-sender : goal.returns-clause-sender
returns-clause-sender g c =
    let ends = c.self.inside.ends.items in
    let lt : c.get.result < length ends = omega (arith, c.self.invariant.0.wide, c.requires, c.get.ensures) in
    take_sender _ _ _ _ ends c.args.self.now c.get.result c.index_mut.result.now c.take.new.self c.self.invariant.0 c.self.view_is lt c.index_mut.ensures.value c.take.result c.take.ensures

pub returns-clause-number : goal.returns-clause-number
returns-clause-number g c =
    let ends = c.self.inside.ends.items in
    let lt : c.get.result < length ends = omega (arith, c.self.invariant.0.wide, c.requires, c.get.ensures) in
    rw (← c.get.ensures) (take_number _ _ _ _ ends c.args.self.now c.get.result c.index_mut.result.now c.take.new.self c.self.invariant.0 c.self.view_is lt c.index_mut.ensures.value c.take.result c.take.ensures)

pub returns-clause-none : goal.returns-clause-none
returns-clause-none g c =
    let ends = c.self.inside.ends.items in
    let lt : c.get.result < length ends = omega (arith, c.self.invariant.0.wide, c.requires, c.get.ensures) in
    take_same _ _ _ _ ends c.args.self.now c.get.result c.index_mut.result.now c.take.new.self c.self.invariant.0 c.self.view_is lt c.index_mut.ensures.value c.take.result c.take.ensures

pub returns-clause-all : goal.returns-clause-all
returns-clause-all g c =
    let ends = c.self.inside.ends.items in
    let lt : c.get.result < length ends = omega (arith, c.self.invariant.0.wide, c.requires, c.get.ensures) in
    rw (← c.get.ensures) (take_all _ _ _ _ ends c.args.self.now c.get.result c.index_mut.result.now c.take.new.self c.self.invariant.0 c.self.view_is lt c.index_mut.ensures.value c.take.result c.take.ensures)

pub returns-clause-sent : goal.returns-clause-sent
returns-clause-sent g c =
    let ends = c.self.inside.ends.items in
    let lt : c.get.result < length ends = omega (arith, c.self.invariant.0.wide, c.requires, c.get.ensures) in
    take_unsent _ _ _ _ ends c.args.self.now c.get.result c.index_mut.result.now c.take.new.self c.self.invariant.0 c.self.view_is lt c.index_mut.ensures.value c.take.result c.take.ensures
