use Rattle.std.proofs.Common.{◌≡◌, ◌⊎◌, subst, inr, Some}
use Rattle.std.specs.Prelude.{OnOk, IfErr}
use Rattle.sml_tree.specs.Content.{file_content}
use Rattle.sml_check_faults.specs.Lookup.{first_item}
use Rattle.sml_check_faults.specs.Kinds.{all_faults, IsWellFormed}
use Rattle.sml_check_faults.specs.KindText.{memory_error}
use Rattle.sml_check_faults.proofs.Judged.{if_err}
use Rattle.sml_check.proofs.faults.first_fault.Goals as goal

pub returns-in-Ok-clause-well_formed : goal.returns-in-Ok-clause-well_formed
returns-in-Ok-clause-well_formed g c = subst (λ f. OnOk c.fault_by-fault.result (IsWellFormed (file_content f)))
    c.in-Ok.ensures c.fault_by-fault.ensures.well_formed

pub returns-in-Ok-clause-fault : goal.returns-in-Ok-clause-fault
returns-in-Ok-clause-fault g c =
    subst (λ f. IfErr c.fault_by-fault.result (λ e. (e ≡ memory_error)
    ⊎ (Some (e.kind, e.name) ≡ first_item (all_faults (file_content f))))) c.in-Ok.ensures
    (if_err _ _ c.fault_by-fault.result (λ e some. inr some) c.fault_by-fault.ensures.fault)
