use Rattle.sml_read_parts.proofs.Marks.{initial_mark}
use Rattle.sml_read_parts.proofs.reader.Reader.initial_mark.Goals as goal

pub returns : goal.returns
returns c = initial_mark c.mark.result c.args.self.now c.mark.new.self c.mark.ensures
