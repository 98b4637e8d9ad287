use Rattle.sml_read_parts.proofs.Marks.{class_mark}
use Rattle.sml_read_parts.proofs.reader.Reader.associated.Goals as goal

pub returns : goal.returns
returns c = class_mark c.mark.result c.args.self.now c.mark.new.self c.mark.ensures
