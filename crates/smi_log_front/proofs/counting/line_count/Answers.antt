use Rattle.std.proofs.Common.{◌∙◌, ◌+◌, ap, arith, rules, take}
use Rattle.smi_log_front.specs.Faults as spec
use Rattle.smi_log_front.proofs.LineCounts.{byte_counted}
use Rattle.smi_log_front.proofs.counting.line_count.Goals as goal

pub loop-byte-preserved : goal.loop-byte-preserved
loop-byte-preserved c =
    let inv = c.loop-byte.invariant in
    let few = c.feeds_of-count.ensures.few in
    let before = inv.1 in (
      ap (λ n. n + c.feeds_of-count.result) inv.0
          ∙ ap (λ n. spec.line_count (take c.loop-byte.byte-index c.args.text.now) + n) c.feeds_of-count.ensures.is
          ∙ search (rules, byte_counted),
      omega (arith, few, before),
    )
