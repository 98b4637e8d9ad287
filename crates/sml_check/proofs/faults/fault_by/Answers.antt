use Rattle.std.proofs.Common.{◌≡◌, ◌∙◌, sym, Some}
use Rattle.sml_tree.specs.Content.{file_content}
use Rattle.sml_check_faults.specs.Lookup.{first_item}
use Rattle.sml_check_faults.specs.Kinds.{all_faults, IsWellFormed}
use Rattle.sml_check_faults.proofs.Judged.{on_ok, if_err, none_nil}
use Rattle.sml_check.proofs.faults.fault_by.Goals as goal

pub returns-clause-well_formed : goal.returns-clause-well_formed
returns-clause-well_formed g c =
    let file = file_content c.args.tables.now.file.now in
    on_ok _ (IsWellFormed file) c.judged.result (λ none. none_nil (all_faults file) (sym none
    ∙ c.lowest_fault.ensures)) c.judged.ensures.ok

pub returns-clause-fault : goal.returns-clause-fault
returns-clause-fault g c =
    if_err _ (λ e. Some (e.kind, e.name) ≡ first_item (all_faults (file_content c.args.tables.now.file.now)))
    c.judged.result (λ e some. some ∙ c.lowest_fault.ensures) c.judged.ensures.err
