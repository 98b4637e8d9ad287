use Rattle.std.specs.Arc.{arc_value}
use Rattle.smirun_live.proofs.BegunLogs.{begins_first, begins_next}
use Rattle.smirun_live.proofs.LedTo.{if_ok_three, if_ok_two}
use Rattle.smirun_live.proofs.beginning.beginning_of.Goals as goal

pub returns-in-One : goal.returns-in-One
returns-in-One c =
    let made = c.args.prepared.now in
    if_ok_three c.first_beginning.result _ _ _ _ c.first_beginning.ensures.domain c.first_beginning.ensures.names c.first_beginning.ensures.first
    (λ b same none copied. begins_first made.text.items c.args.log.text.now made.options.capacity (arc_value made.domain) (arc_value b.domain) b.carried.names
    made.first.items b.first.items c.log_version.result c.log_version.ensures c.in-One.is c.requires.domain same none c.requires.first copied)

pub returns-in-Two : goal.returns-in-Two
returns-in-Two c =
    let made = c.args.prepared.now in
    if_ok_two c.next_beginning.result _ _ _ c.next_beginning.ensures.begun c.next_beginning.ensures.first
    (λ b begun said. begins_next made.text.items c.args.log.text.now made.options.capacity (arc_value b.domain) b.carried b.first.items
    c.log_version.result begun.0 c.log_version.ensures c.in-Two.is begun.1 begun.2 said)
