use Rattle.std.proofs.Common.{[], ◌∷◌}
use Rattle.smi_live_carried.proofs.Ends.{without_end}
use Rattle.smi_live_carried.proofs.taking_along.without_feed.Goals as goal

pub returns : goal.returns
returns c =
    without_end c.args.answer.now c.as_slice.result.now (10 ∷ []) c.strip_suffix.result c.as_slice.ensures c.strip_suffix.ensures.cases
