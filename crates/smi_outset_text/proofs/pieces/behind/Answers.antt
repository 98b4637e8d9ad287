use Rattle.smi_outset_text.proofs.Fronts.{stripped}
use Rattle.smi_outset_text.proofs.pieces.behind.Goals as goal

pub returns : goal.returns
returns c = stripped c.args.text.now c.args.front.now c.strip_prefix.result c.strip_prefix.ensures.cases
