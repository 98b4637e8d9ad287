use Rattle.smi_live_answers.proofs.OneName.{none_read}
use Rattle.smi_live_answers.proofs.named.answered_unmarked.Goals as goal

pub returns-clause-none : goal.returns-clause-none
returns-clause-none c =
    none_read c.laws_of_tokens.ensures.some c.args.plain.now c.read_step-read.result c.object_of-object.result c.read_step-read.ensures c.object_of-object.ensures.read c.object_of-object.ensures.is
