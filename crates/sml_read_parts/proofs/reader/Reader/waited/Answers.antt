use Rattle.sml_read_parts.proofs.Stopped.{handed}
use Rattle.sml_read_parts.proofs.Waiting.{object_refused}
use Rattle.sml_read_parts.proofs.reader.Reader.waited.Goals as goal

pub returns-in_err-name-clause-read : goal.returns-in_err-name-clause-read
returns-in_err-name-clause-read c =
    rw (handed _ c.in_err-name.field-0.0 c.from_residual.ensures.1)
    (object_refused c.args.before c.args.self.now c.limited.new.self c.in_err-name.field-0.0 c.if-stands.ensures c.in_err-name.ensures.read)
