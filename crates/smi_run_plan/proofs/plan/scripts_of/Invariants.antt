-- The scripts so far are those of the lists that were taken.
use Rattle.std.proofs.Common.{◌≡◌, map}
use Rattle.smi_run_plan.specs.Plans.{deeds_of, deeds_of_script}
use Rattle.smi_run_plan.proofs.plan.scripts_of.Given as goal

abbrev pub invariant-loop-lines : goal.invariant-loop-lines
invariant-loop-lines l = map deeds_of_script l.scripts.items ≡ map deeds_of l.yielded
