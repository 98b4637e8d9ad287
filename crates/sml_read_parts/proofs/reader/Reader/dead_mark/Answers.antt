use Rattle.sml_read_parts.proofs.Marks.{dead_mark}
use Rattle.sml_read_parts.proofs.reader.Reader.dead_mark.Goals as goal

pub returns : goal.returns
returns c = dead_mark c.mark.result c.args.self.now c.mark.new.self c.mark.ensures
