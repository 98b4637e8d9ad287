use Rattle.std.proofs.Common.{◌≡◌, take}
use Rattle.smi_world.specs.World.{opening}
use Rattle.smi_world.specs.Steps.{Run}
use Rattle.smi_core.proofs.runs.run.Given as goal

abbrev pub invariant-loop-step : goal.invariant-loop-step
invariant-loop-step l = record {
  run : Run l.core.setup (opening l.core.setup) (take l.step-index l.steps) l.answers.items l.core.world;
  setup : l.core.setup ≡ l.initial.core.setup;
}
