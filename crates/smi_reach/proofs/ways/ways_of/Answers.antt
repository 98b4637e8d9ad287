-- The way of one more block.
use Rattle.std.proofs.Common.{ap, sym, ◌∙◌, subst, ◌+◌, length}
use Rattle.sml_domain.specs.Lookups.{tree_of_block}
use Rattle.std.proofs.lemmas.List.{length_push}
use Rattle.smi_reach.specs.Ways.{AreWays, IsWayOf}
use Rattle.smi_reach.proofs.Tables.{one_more}
use Rattle.smi_reach.proofs.ways.ways_of.Goals as goal

pub loop-block-preserved : goal.loop-block-preserved
loop-block-preserved c =
    let d = c.args.domain.now in
    let i = c.loop-block.invariant in
    let ways = c.loop-block.ways.items in
    let w = c.in_ok-way.way in
    let new : IsWayOf (tree_of_block d (length ways)) w = subst (λ b. IsWayOf (tree_of_block d b) w) (c.new.ensures ∙ sym i.count) c.in_ok-way.ensures in
    let items = c.in_ok-push.ensures.items in
    record {
      known = subst (AreWays d) (sym items) (one_more d ways w i.known new);
      count = ap length items ∙ length_push ways w ∙ ap (λ n. n + 1) i.count;
    }
