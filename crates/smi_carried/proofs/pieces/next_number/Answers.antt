use Rattle.smi_carried.proofs.Cuts.{no_number}
use Rattle.smi_carried.proofs.pieces.next_number.Goals as goal

pub returns-in-None-clause-none : goal.returns-in-None-clause-none
returns-in-None-clause-none c =
    no_number _ _ _ _ c.requires c.in_ok-digits.ensures.some.0 c.in_ok-digits.ensures.some.1 c.in-None.ensures.none
