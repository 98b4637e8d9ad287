use Rattle.std.proofs.Common.{◌∙◌, sym}
use Rattle.smi_carried.proofs.OnceLines.{no_what, no_what_cut}
use Rattle.smi_carried.proofs.onces.next_what.Goals as goal

pub returns-in_default-clause-none : goal.returns-in_default-clause-none
returns-in_default-clause-none c = no_what_cut _ c.in_default.ensures.none

pub returns-else-is_what-clause-none : goal.returns-else-is_what-clause-none
returns-else-is_what-clause-none c =
    no_what _ _ _ c.in-Some.ensures.some.0 c.in-Some.ensures.some.1 (sym c.is_what.ensures ∙ c.if-is_what.false)
