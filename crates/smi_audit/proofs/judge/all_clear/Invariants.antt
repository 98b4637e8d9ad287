-- Those before the turn's are clear.
use Rattle.std.proofs.Common.{◌≡◌, drop}
use Rattle.smi_meaning.specs.EntryLaws as laws
use Rattle.smi_audit.proofs.judge.all_clear.Given as goal

abbrev pub invariant-loop-object : goal.invariant-loop-object
invariant-loop-object l =
    laws.are_clear l.books.journal l.o (drop l.object-index l.objects) ≡ laws.are_clear l.books.journal l.o l.objects
