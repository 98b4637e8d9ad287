use Rattle.std.proofs.Common.{◌∙◌, sym}
use Rattle.smi_mail.proofs.Closing.{now_whole, now_capacity, now_final}
use Rattle.smi_mail.proofs.Ordering.{final_given}
use Rattle.smi_mail.proofs.ruled_mail.RuledMail.close_into.Goals as goal

pub drain_all-ends-requires-clause-whole : goal.drain_all-ends-requires-clause-whole
drain_all-ends-requires-clause-whole g c =
    let j = c.join_sessions.ensures in
    now_whole _ _ _ _ c.self.inside.ends.items c.self.invariant.0 c.args.self c.in_order.result.items c.join_sessions.new.board.items c.self.view_is c.in_order.ensures.count j.long j.each

pub drain_all-ends-requires-clause-rooms : goal.drain_all-ends-requires-clause-rooms
drain_all-ends-requires-clause-rooms g c =
    let j = c.join_sessions.ensures in
    let r = c.room.invariant in (
      r.2 ∙ sym c.self.invariant.0.wide ∙ sym j.long,
      (
        g.K.MailNames.names.capacity,
        now_capacity _ _ _ _ c.self.inside.ends.items c.self.invariant.0 c.args.self c.in_order.result.items c.join_sessions.new.board.items c.self.view_is c.in_order.ensures.count j.long j.each,
        r.3,
      ),
    )

pub returns : goal.returns
returns g c =
    let j = c.join_sessions.ensures in
    let e = c.drain_all-ends.ensures in
    λ o lt. final_given c.args.self c.args.ends.items c.in_order.result.items _ o (c.requires.count ∙ sym c.in_order.ensures.count) c.in_order.ensures.kept
    (now_final _ _ _ _ c.self.inside.ends.items c.self.invariant.0 c.args.self c.in_order.result.items c.join_sessions.new.board.items c.self.view_is c.in_order.ensures.count j.long j.each c.in_order.ensures.order c.drain_all-ends.result.items e.long e.each o lt)
