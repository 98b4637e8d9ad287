use Rattle.std.proofs.Common.{◌∙◌, ap}
use Rattle.smi_run_runtime.specs.declared.opening.Config.{Config}
use Rattle.smi_run.proofs.running.run_watched.Goals as goal

pub returns-in-Ok-finish-clause-limit : goal.returns-in-Ok-finish-clause-limit
returns-in-Ok-finish-clause-limit g c = λ is.
    let end = c.borne_out-end.ensures.limit is in
    (end.0, end.1 ∙ ap (λ (n : Config). n.max_starts) c.config-max_starts.ensures)
