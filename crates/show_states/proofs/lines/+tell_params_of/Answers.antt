use Rattle.std.proofs.Common.{arith}
use Rattle.show_states.specs.StandingText.{standing_param_lines}
use Rattle.show_states.proofs.Tolds.{first_and_rest}
use Rattle.sml_writer.proofs.Telling.{tells_again, then_tells}
use Rattle.show_states.proofs.lines.+tell_params_of.Goals as goal

pub returns-in-len1-up-values : goal.returns-in-len1-up-values
returns-in-len1-up-values g t c =
    let p = first_and_rest c.args.params.now c.param-item.result (omega arith) c.param-item.is in
    let v = first_and_rest c.args.values.now c.value-item.result (omega arith) c.value-item.is in
    tells_again (then_tells c.tell_param.ensures c.tell_params_of.ensures)
    (λ i. standing_param_lines c.args.domain.now c.args.o (p i) (v i))
