use Rattle.sml_read_parts.proofs.Params.{action_kind_err, action_name_err, action_value_err, action_param_ok}
use Rattle.sml_read_parts.proofs.Stopped.{handed}
use Rattle.sml_read_parts.proofs.reader.Reader.action_param.Goals as goal

pub returns-in_err-kind-clause-read : goal.returns-in_err-kind-clause-read
returns-in_err-kind-clause-read g c =
    rw (handed _ c.in_err-kind.field-0.0 c.from_residual.ensures.1)
    (action_kind_err c.args.before c.args.self.now c.in_err-kind.field-0.0 c.in_err-kind.ensures.read)

pub returns-in_err-name-clause-read : goal.returns-in_err-name-clause-read
returns-in_err-name-clause-read g c =
    rw (handed _ c.in_err-name.field-0.0 c.from_residual-in_err-name.ensures.1)
    (action_name_err c.args.before c.args.self.now c.sort.new.self c.named.new.self c.in_ok-kind.kind c.in_err-name.field-0.0 c.in_ok-kind.ensures.read c.in_err-name.ensures.none)

pub returns-in_err-default-clause-read : goal.returns-in_err-default-clause-read
returns-in_err-default-clause-read g c =
    rw (handed _ c.in_err-default.field-0.0 c.from_residual-in_err-default.ensures.1)
    (action_value_err c.args.before c.args.self.now c.sort.new.self c.named.new.self c.in_ok-kind.kind c.in_ok-name.ensures.read.0 c.in_err-default.field-0.0 c.in_ok-kind.ensures.read (c.in_ok-name.ensures.read.1, c.in_ok-name.ensures.read.2) c.in_err-default.ensures)

pub returns-clause-read : goal.returns-clause-read
returns-clause-read g c =
    action_param_ok c.args.before c.args.self.now c.sort.new.self c.named.new.self c.default.new.self c.in_ok-kind.kind c.in_ok-name.ensures.read.0 c.in_ok-name.name _ c.in_ok-kind.ensures.read (c.in_ok-name.ensures.read.1, c.in_ok-name.ensures.read.2) c.in_ok-name.ensures.read.3 c.in_ok-default.ensures
