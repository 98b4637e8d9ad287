-- Those before the turn's are clear.
use Rattle.std.proofs.Common.{◌≡◌, drop}
use Rattle.std.specs.List.{list_all}
use Rattle.smi_meaning.specs.Legal.{is_clear_for}
use Rattle.smi_audit.proofs.judge.read_clear.Given as goal

abbrev pub invariant-loop-reading : goal.invariant-loop-reading
invariant-loop-reading l =
    list_all (is_clear_for l.books.journal l.o) (drop l.reading-index l.readings) ≡ list_all
    (is_clear_for l.books.journal l.o) l.readings
