use Rattle.std.proofs.Common.{◌≡◌, ◌⊎◌, subst, Some}
use Rattle.std.specs.Prelude.{IfOk, IfErr}
use Rattle.sml_tree.specs.Content.{file_content}
use Rattle.sml_check_faults.specs.Lookup.{first_item}
use Rattle.sml_check_faults.specs.Kinds.{all_faults, IsWellFormed}
use Rattle.sml_check_faults.specs.KindText.{memory_error}
use Rattle.sml_check_build.specs.FileDomain.{IsDomainOf}
use Rattle.sml_check.proofs.checked.check.Goals as goal

pub returns-in-Ok-clause-ok : goal.returns-in-Ok-clause-ok
returns-in-Ok-clause-ok g c = subst (λ f. IfOk c.domain_by-domain.result (λ d. IsWellFormed (file_content f)
    × IsDomainOf (file_content f) d)) c.in-Ok.ensures c.domain_by-domain.ensures.ok

pub returns-in-Ok-clause-err : goal.returns-in-Ok-clause-err
returns-in-Ok-clause-err g c =
    subst (λ f. IfErr c.domain_by-domain.result (λ e. (e ≡ memory_error)
    ⊎ (Some (e.kind, e.name) ≡ first_item (all_faults (file_content f))))) c.in-Ok.ensures
    c.domain_by-domain.ensures.err
