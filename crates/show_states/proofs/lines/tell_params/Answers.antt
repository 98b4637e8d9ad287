use Rattle.std.proofs.Common.{◌++◌, subst}
use Rattle.sml_domain.specs.Lookups.{class_params_at}
use Rattle.smi_meaning.specs.Params.{ParamsAfter}
use Rattle.show_states.specs.StandingText.{standing_param_lines}
use Rattle.show_states.proofs.Tolds.{param_lines_more, same_param_lines}
use Rattle.sml_writer.proofs.Telling.{tells_again, then_tells}
use Rattle.show_states.proofs.lines.tell_params.Goals as goal

-- the parameters of one object more
pub loop-o-preserved : goal.loop-o-preserved
loop-o-preserved g c =
    let s = c.args.standing.now in
    let format = g.S.Standing.in_format s in
    let d = g.S.Standing.of_domain s in
    let J = g.S.Standing.behind s in
    let o = c.loop-o.o in
    let own = c.params.result.now in
    let lines = c.loop-o.invariant.0 in
    let after : ParamsAfter format d o J own =
    subst (λ n. ParamsAfter format d n J own) c.new-o.ensures c.params.ensures in (
      lines ++ standing_param_lines d o (class_params_at d o) own,
      param_lines_more format d J o lines own c.loop-o.invariant.1 after,
      then_tells c.loop-o.invariant.2
          (tells_again c.tell_params_of.ensures
          (same_param_lines {d = d} {o = o} own c.domain-domain.ensures c.new-o.ensures c.class_parameters.ensures.is)),
    )
