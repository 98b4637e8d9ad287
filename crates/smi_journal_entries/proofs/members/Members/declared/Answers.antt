-- No set is changed that has its declared members.
use Rattle.std.proofs.Common.{◌≡◌, ◌≤◌, ◌++◌, ◌∙◌, [], ap, append-nil, arith, drop, length, map, subst, sym}
use Rattle.std.proofs.Math.ListN.{drop_of_length-le}
use Rattle.smi_journal_entries.specs.Sets.{as_declared, NoneChanged}
use Rattle.smi_journal_entries.proofs.Unchanged.{none_changed}
use Rattle.smi_journal_entries.proofs.members.Members.declared.Goals as goal

pub of_list-requires : goal.of_list-requires
of_list-requires c =
    let groups = c.groups-groups.result.now in
    let sets = c.loop-group.sets.items in
    let over : length groups ≤ c.loop-group.group-index = omega (arith, c.loop-group-test.false) in
    let none : drop c.loop-group.group-index groups ≡ [] = drop_of_length-le groups over in
    let all : sets ≡ map as_declared groups =
    sym (append-nil sets) ∙ ap (λ gs. sets ++ map as_declared gs) (sym none) ∙ c.loop-group.invariant in
    subst NoneChanged (sym all) (none_changed groups)
