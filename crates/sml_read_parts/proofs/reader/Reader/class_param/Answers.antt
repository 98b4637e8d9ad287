use Rattle.sml_read_parts.proofs.Params.{class_kind_err, class_name_err, class_sign_err, class_value_err, class_param_ok}
use Rattle.sml_read_parts.proofs.Stopped.{handed}
use Rattle.sml_read_parts.proofs.reader.Reader.class_param.Goals as goal

pub returns-in_err-kind-clause-read : goal.returns-in_err-kind-clause-read
returns-in_err-kind-clause-read g c =
    rw (handed _ c.in_err-kind.field-0.0 c.from_residual.ensures.1)
    (class_kind_err c.args.before c.args.self.now c.in_err-kind.field-0.0 c.in_err-kind.ensures.read)

pub returns-in_err-name-clause-read : goal.returns-in_err-name-clause-read
returns-in_err-name-clause-read g c =
    rw (handed _ c.in_err-name.field-0.0 c.from_residual-in_err-name.ensures.1)
    (class_name_err c.args.before c.args.self.now c.sort.new.self c.named.new.self c.in_ok-kind.kind c.in_err-name.field-0.0 c.in_ok-kind.ensures.read c.in_err-name.ensures.none)

pub returns-in_err-sign-clause-read : goal.returns-in_err-sign-clause-read
returns-in_err-sign-clause-read g c =
    rw (handed _ c.in_err-sign.field-0.0 c.from_residual-in_err-sign.ensures.1)
    (class_sign_err c.args.before c.args.self.now c.sort.new.self c.named.new.self c.sign.new.self c.in_ok-kind.kind c.in_ok-name.ensures.read.0 c.in_err-sign.field-0.0 c.in_ok-kind.ensures.read (c.in_ok-name.ensures.read.1, c.in_ok-name.ensures.read.2) c.in_err-sign.ensures.none)

pub returns-in_err-value-clause-read : goal.returns-in_err-value-clause-read
returns-in_err-value-clause-read g c =
    rw (handed _ c.in_err-value.field-0.0 c.from_residual-in_err-value.ensures.1)
    (class_value_err c.args.before c.args.self.now c.sort.new.self c.named.new.self c.sign.new.self c.in_ok-kind.kind c.in_ok-name.ensures.read.0 c.in_ok-sign.ensures.read.0 c.in_err-value.field-0.0 c.in_ok-kind.ensures.read (c.in_ok-name.ensures.read.1, c.in_ok-name.ensures.read.2) (c.in_ok-sign.ensures.read.1, c.in_ok-sign.ensures.read.2) c.in_err-value.ensures)

pub returns-clause-read : goal.returns-clause-read
returns-clause-read g c =
    class_param_ok c.args.before c.args.self.now c.sort.new.self c.named.new.self c.sign.new.self c.literal.new.self c.in_ok-kind.kind c.in_ok-name.ensures.read.0 c.in_ok-sign.ensures.read.0 c.in_ok-name.name _ c.in_ok-kind.ensures.read (c.in_ok-name.ensures.read.1, c.in_ok-name.ensures.read.2) c.in_ok-name.ensures.read.3 (c.in_ok-sign.ensures.read.1, c.in_ok-sign.ensures.read.2) c.in_ok-value.ensures
