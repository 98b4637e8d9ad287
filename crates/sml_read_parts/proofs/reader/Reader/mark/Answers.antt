use Rattle.sml_read_parts.proofs.Stopped.{handed}
use Rattle.sml_read_parts.proofs.reader.Reader.mark.Goals as goal

pub returns : goal.returns
returns c = (c.skip.new.self, c.if-not-skip.ensures, c.in_ok-sign.ensures.read)

pub returns-in_err-sign : goal.returns-in_err-sign
returns-in_err-sign c = rw (handed _ c.in_err-sign.field-0.0 c.from_residual.ensures.1) (c.skip.new.self, c.sign.new.self, c.if-not-skip.ensures, c.in_err-sign.ensures.none)
