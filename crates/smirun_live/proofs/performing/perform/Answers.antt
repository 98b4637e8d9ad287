use Rattle.std.proofs.Common.{◌∙◌}
use Rattle.smi_live.specs.Managing.{keeper_of}
use Rattle.smirun_live.proofs.Again.{all_made, line_made, on_ok}
use Rattle.smirun_live.proofs.performing.perform.Goals as goal

pub loop-line-preserved : goal.loop-line-preserved
loop-line-preserved c = (
  line_made (keeper_of c.args.manager.now) c.args.text.now (keeper_of c.loop-line.manager) c.loop-line.rest.now c.in-Some.line.now c.in-Some.more.now c.perform_line.new.made.text.items (keeper_of c.perform_line.new.manager) c.loop-line.invariant.0 c.in-Some.ensures.some.0 c.in-Some.ensures.some.1 c.in-Ok.ensures.made,
  c.perform_line.ensures.setup ∙ c.loop-line.invariant.1,
)

pub returns-clause-made : goal.returns-clause-made
returns-clause-made c = on_ok c.perform_line-2.result c.perform_line-2.ensures.made (λ made.
    all_made (keeper_of c.args.manager.now) c.args.text.now (keeper_of c.loop-line.manager) c.loop-line.rest.now c.perform_line-2.new.made.text.items (keeper_of c.perform_line-2.new.manager) c.loop-line.invariant.0 c.in_default.ensures.none made)
