use Rattle.std.proofs.Common.{◌∙◌}
use Rattle.sml_check_faults.specs.Heads.{has_mark}
use Rattle.sml_check_faults.proofs.Rests.{rest_end}
use Rattle.sml_check_faults.proofs.Twice.{none_more}
use Rattle.sml_check_faults.proofs.heads.two_marked.Goals as goal

pub returns : goal.returns
returns g c = none_more c.loop-state.seen (has_mark c.args.dead) ∙ rest_end c.loop-state.invariant c.loop-state-test.false
