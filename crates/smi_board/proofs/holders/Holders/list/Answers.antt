-- The one that is listed comes before the others.
use Rattle.std.proofs.Common.{◌≡◌, ◌<◌, ◌∙◌, None, Some, ap, length, rules, subst, sym}
use Rattle.std.specs.Prelude.{slice_set}
use Rattle.smi_board.specs.Holders.{AreLinked, holder_of}
use Rattle.smi_board.proofs.Listed.{linked_more, read_at}
use Rattle.smi_board.proofs.holders.Holders.list.Goals as goal

pub invariant_of-self : goal.invariant_of-self
invariant_of-self c =
    let hs = c.self.inside.holders.items in
    let fs = c.self.inside.firsts.items in
    let ns = c.self.inside.nexts.items in
    let o = c.args.o in
    let x = c.args.holder in
    let next = c.index.result.now in
    let o_in : o < length hs = search rules in
    let x_in : x < length hs = search rules in
    let there : c.get.result < length fs = search rules in
    let free : holder_of hs o ≡ None = ap (λ l. holder_of l o) c.self.view_is ∙ c.requires.free in
    let is = read_at fs x c.get.result next there c.get.ensures c.index.ensures in
    subst
    (λ i. AreLinked (slice_set hs i (Some x)) (slice_set fs c.get-3.result (Some o)) (slice_set ns c.get-2.result next))
    (sym c.get-4.ensures)
    (subst (λ i. AreLinked (slice_set hs o (Some x)) (slice_set fs i (Some o)) (slice_set ns c.get-2.result next))
    (sym c.get-3.ensures)
    (subst (λ i. AreLinked (slice_set hs o (Some x)) (slice_set fs x (Some o)) (slice_set ns i next))
    (sym c.get-2.ensures) (linked_more hs fs ns o x next c.self.invariant o_in x_in free is)))
