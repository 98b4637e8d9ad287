use Rattle.std.proofs.Common.{◌∙◌, sym}
use Rattle.smi_carried.proofs.OnceLines.{no_name, no_name_cut}
use Rattle.smi_carried.proofs.onces.next_name.Goals as goal

pub returns-in_default-clause-none : goal.returns-in_default-clause-none
returns-in_default-clause-none c = no_name_cut _ c.in_default.ensures.none

pub returns-else-is_name-clause-none : goal.returns-else-is_name-clause-none
returns-else-is_name-clause-none c =
    no_name _ _ _ c.in-Some.ensures.some.0 c.in-Some.ensures.some.1 (sym c.is_name.ensures ∙ c.if-is_name.false)
