use Rattle.std.proofs.Common.{[], ◌∷◌}
use Rattle.smirun_next.proofs.Wholes.{before_end}
use Rattle.smirun_next.proofs.next_text.before_feed.Goals as goal

pub returns : goal.returns
returns c = before_end c.args.log.now c.as_slice.result.now (10 ∷ []) c.strip_suffix.result c.as_slice.ensures c.strip_suffix.ensures.cases
