-- The first that is listed with an object is one of the objects.
use Rattle.std.proofs.Common.{◌<◌, None, length, rules, subst, sym}
use Rattle.std.specs.Prelude.{slice_set}
use Rattle.smi_board.specs.Holders.{AreLinked}
use Rattle.smi_board.proofs.Listed.{first_read, first_within, linked_less, read_at}
use Rattle.smi_board.proofs.holders.Holders.take.Goals as goal

pub index-requires-2 : goal.index-requires-2
index-requires-2 c =
    let x_in : c.args.holder < length c.self.inside.holders.items = search rules in
    let lt = first_within _ _ _ c.args.holder c.get.result c.in_ok-o.o c.index.result.now c.self.invariant x_in
    c.get.ensures c.index.ensures c.in_ok-o.was in
    search rules

pub index_mut-requires-2 : goal.index_mut-requires-2
index_mut-requires-2 c =
    let x_in : c.args.holder < length c.self.inside.holders.items = search rules in
    let lt = first_within _ _ _ c.args.holder c.get.result c.in_ok-o.o c.index.result.now c.self.invariant x_in
    c.get.ensures c.index.ensures c.in_ok-o.was in
    search rules

pub invariant_of-self : goal.invariant_of-self
invariant_of-self c =
    let hs = c.self.inside.holders.items in
    let fs = c.self.inside.firsts.items in
    let ns = c.self.inside.nexts.items in
    let x = c.args.holder in
    let o = c.in_ok-o.o in
    let next = c.index-2.result.now in
    let x_in : x < length hs = search rules in
    let first = first_read hs fs ns x c.get.result o c.index.result.now c.self.invariant x_in c.get.ensures
    c.index.ensures c.in_ok-o.was in
    let lt = first_within hs fs ns x c.get.result o c.index.result.now c.self.invariant x_in c.get.ensures
    c.index.ensures c.in_ok-o.was in
    let behind : c.get-2.result < length ns = search rules in
    let is = read_at ns o c.get-2.result next behind c.get-2.ensures c.index-2.ensures in
    subst (λ p. AreLinked (slice_set hs p None) (slice_set fs c.get-3.result next) ns) (sym c.get-4.ensures)
    (subst (λ p. AreLinked (slice_set hs o None) (slice_set fs p next) ns) (sym c.get-3.ensures)
    (linked_less hs fs ns o x next c.self.invariant first x_in is))

pub returns-clause-within : goal.returns-clause-within
returns-clause-within c =
    let x_in : c.args.holder < length c.self.inside.holders.items = search rules in
    let lt = first_within _ _ _ c.args.holder c.get.result c.in_ok-o.o c.index.result.now c.self.invariant x_in
    c.get.ensures c.index.ensures c.in_ok-o.was in
    search rules
