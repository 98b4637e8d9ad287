use Rattle.smi_carried.proofs.Cuts.{stripped}
use Rattle.smi_carried.proofs.pieces.after.Goals as goal

pub returns : goal.returns
returns c = stripped c.args.text.now c.args.front.now c.strip_prefix.result c.strip_prefix.ensures.cases
