use Rattle.std.proofs.Common.{◌≡◌, map, take}
use Rattle.smirun_run.specs.Summary.{all_refused}
use Rattle.smirun_run.proofs.running.counts_of.Given as goal

-- a count for each of those before
abbrev pub invariant-loop-refusals : goal.invariant-loop-refusals
invariant-loop-refusals l = l.counts.items ≡ map all_refused (take l.refusals-index l.refused)
