use Rattle.smi_run_shared.specs.Jobs.{IsJobIn}
use Rattle.smi_run_runtime.proofs.runtime.Runtime.serve.Given as goal

abbrev pub invariant-loop : goal.invariant-loop
invariant-loop g l = IsJobIn g.K.MailNames.names.domain l.job
