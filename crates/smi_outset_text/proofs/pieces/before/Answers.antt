use Rattle.smi_outset_text.proofs.Fronts.{stripped_end}
use Rattle.smi_outset_text.proofs.pieces.before.Goals as goal

pub returns : goal.returns
returns c = stripped_end c.args.text.now c.args.end.now c.strip_suffix.result c.strip_suffix.ensures.cases
