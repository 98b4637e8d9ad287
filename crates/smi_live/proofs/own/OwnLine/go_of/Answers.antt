use Rattle.std.proofs.Common.{◌≡◌, sym, subst, true, arith}
use Rattle.smi_live.specs.Managing.{IsOwnLine}
use Rattle.smi_live.proofs.Unmarked.{go_unmarked}
use Rattle.smi_live.proofs.own.OwnLine.go_of.Goals as goal

pub invariant_of-result : goal.invariant_of-result
invariant_of-result c =
    let text = c.args.text.items in
    let is : c.is_go.result ≡ true = grind (arith, c.if-is_go.true) in
    (c.requires.reads, subst (λ s. IsOwnLine s text) (sym (c.is_go.ensures is)) c.requires.text, go_unmarked text c.args.name.now c.requires.text c.requires.free)
