use Rattle.sml_read_parts.proofs.Heads.{action_head_err, action_ok, action_params_err, action_body_err}
use Rattle.sml_read_parts.proofs.Stopped.{handed}
use Rattle.sml_read.proofs.state.action.Goals as goal

pub returns-in_err-name-clause-next : goal.returns-in_err-name-clause-next
returns-in_err-name-clause-next g c =
    rw (handed _ c.in_err-name.field-0.0 c.from_residual.ensures.1)
    (action_head_err c.args.before c.args.reader.now c.head.new.self c.in_err-name.field-0.0 c.requires.at_action c.in_err-name.ensures.read)

pub returns-in_err-params-clause-next : goal.returns-in_err-params-clause-next
returns-in_err-params-clause-next g c =
    rw (handed _ c.in_err-params.field-0.0 c.from_residual-in_err-params.ensures.1)
    (action_params_err c.args.before c.args.reader.now c.head.new.self c.in_ok-name.name c.in_err-params.field-0.0 c.requires.at_action c.in_ok-name.ensures.read c.in_err-params.ensures)

pub returns-in_err-body-clause-next : goal.returns-in_err-body-clause-next
returns-in_err-body-clause-next g c =
    rw (handed _ c.in_err-body.field-0.0 c.from_residual-in_err-body.ensures.1)
    (action_body_err c.args.before c.args.reader.now c.head.new.self c.action_params.new.self c.in_ok-name.name _ c.in_err-body.field-0.0 c.requires.at_action c.in_ok-name.ensures.read c.in_ok-params.ensures c.in_err-body.ensures)

pub returns-clause-next : goal.returns-clause-next
returns-clause-next g c =
    action_ok c.args.before c.args.reader.now c.head.new.self c.action_params.new.self c.block.new.reader c.in_ok-name.name _ _ c.requires.at_action c.in_ok-name.ensures.read c.in_ok-params.ensures c.in_ok-body.ensures
