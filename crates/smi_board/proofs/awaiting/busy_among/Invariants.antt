use Rattle.std.proofs.Common.{◌≡◌, ◌++◌, drop}
use Rattle.smi_board.specs.Awaiting.{in_the_way}
use Rattle.smi_board.proofs.awaiting.busy_among.Given as goal

abbrev pub invariant-loop-object : goal.invariant-loop-object
invariant-loop-object l =
    l.busy.items ++ in_the_way l.ledger.journal l.o (drop l.object-index l.objects) ≡ in_the_way l.ledger.journal l.o l.objects
