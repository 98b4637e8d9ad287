use Rattle.std.proofs.Common.{◌≡◌, sym, subst, true, arith}
use Rattle.smi_live.specs.Managing.{IsOwnLine}
use Rattle.smi_live.proofs.Unmarked.{start_unmarked}
use Rattle.smi_live.proofs.own.OwnLine.start_of.Goals as goal

pub invariant_of-result : goal.invariant_of-result
invariant_of-result c =
    let text = c.args.text.items in
    let is : c.is_start.result ≡ true = grind (arith, c.if-is_start.true) in
    (c.requires.reads, subst (λ s. IsOwnLine s text) (sym (c.is_start.ensures is)) c.requires.text, start_unmarked text c.args.name.now c.requires.text c.requires.free)
