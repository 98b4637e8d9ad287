use Rattle.sml_check_faults.specs.Lookup as look
use Rattle.sml_check_faults.proofs.Rests.{Rest}
use Rattle.sml_check_faults.proofs.lookup.is_among.Given as goal

abbrev pub invariant-loop-other : goal.invariant-loop-other
invariant-loop-other l = Rest (λ ys. look.among ys l.name) l.names l.other-index (let ys = l.names in look.among ys l.name)
