use Rattle.sml_read_parts.proofs.Heads.{state_head_err, state_ok, state_marks_err, state_actions_err}
use Rattle.sml_read_parts.proofs.Stopped.{handed}
use Rattle.sml_read.proofs.state.state.Goals as goal

pub returns-in_err-name-clause-next : goal.returns-in_err-name-clause-next
returns-in_err-name-clause-next g c =
    rw (handed _ c.in_err-name.field-0.0 c.from_residual.ensures.1)
    (state_head_err c.args.before c.args.reader.now c.head.new.self c.in_err-name.field-0.0 c.requires.at_state c.in_err-name.ensures.read)

pub returns-in_err-marks-clause-next : goal.returns-in_err-marks-clause-next
returns-in_err-marks-clause-next g c =
    rw (handed _ c.in_err-marks.field-0.0 c.from_residual-in_err-marks.ensures.1)
    (state_marks_err c.args.before c.args.reader.now c.head.new.self c.in_ok-name.name c.in_err-marks.field-0.0 c.requires.at_state c.in_ok-name.ensures.read c.in_err-marks.ensures)

pub returns-in_err-actions-clause-next : goal.returns-in_err-actions-clause-next
returns-in_err-actions-clause-next g c =
    rw (handed _ c.in_err-actions.field-0.0 c.from_residual-in_err-actions.ensures.1)
    (state_actions_err c.args.before c.args.reader.now c.head.new.self c.marks.new.self c.in_ok-name.name _ c.in_err-actions.field-0.0 c.requires.at_state c.in_ok-name.ensures.read c.in_ok-marks.ensures c.in_err-actions.ensures)

pub returns-clause-next : goal.returns-clause-next
returns-clause-next g c =
    state_ok c.args.before c.args.reader.now c.head.new.self c.marks.new.self c.actions.new.reader c.in_ok-name.name _ _ c.requires.at_state c.in_ok-name.ensures.read c.in_ok-marks.ensures c.in_ok-actions.ensures
