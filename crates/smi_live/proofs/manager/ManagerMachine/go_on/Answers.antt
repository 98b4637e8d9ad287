use Rattle.std.proofs.Common.{◌<◌, ◌≤◌, sym, subst}
use Rattle.smi_live.specs.Keeping.{FirstOf}
use Rattle.smi_live.proofs.Resting.{all_parts, if_ok_both, turn_before, turn_behind}
use Rattle.smi_live.proofs.manager.ManagerMachine.go_on.Goals as goal

pub returns-in-Ok-true-clause-own : goal.returns-in-Ok-true-clause-own
returns-in-Ok-true-clause-own g c = λ _.
    turn_behind c.args.self.now _ _ _ (subst (λ n. FirstOf c.args.self.now n c.count-count.result c.try_all.new.made.kept.items c.try_all.new.self) c.first-first.ensures (c.in-Ok-true.ensures.own c.in-Ok-true.field-0-test))

pub returns-in-Ok-false-clause-rests : goal.returns-in-Ok-false-clause-rests
returns-in-Ok-false-clause-rests g c =
    let no = c.in-Ok-false.field-0-test in
    if_ok_both c.try_all-in-Ok-false.result _ _ c.try_all-in-Ok-false.ensures.idle (λ b h e.
    all_parts c.args.self.now c.try_all.new.self c.first-first.result (c.in-Ok-false.ensures.same no) (λ x le lt. c.in-Ok-false.ensures.idle no x le (subst (λ n. x < n) (sym c.count-count.ensures) lt)) (h e))

pub returns-in-Ok-false-clause-own : goal.returns-in-Ok-false-clause-own
returns-in-Ok-false-clause-own g c =
    let no = c.in-Ok-false.field-0-test in
    let m = c.args.self.now in
    let mid = c.try_all.new.self in
    if_ok_both c.try_all-in-Ok-false.result _ _ c.try_all-in-Ok-false.ensures.own (λ b h e.
    turn_before m mid _ _ (c.in-Ok-false.ensures.same no) (λ x le lt. c.in-Ok-false.ensures.idle no x (subst (λ n. n ≤ x) (sym c.first-first.ensures) le) (subst (λ n. x < n) (sym c.count-count.ensures) lt)) (subst (λ n. FirstOf mid 0 n c.try_all-in-Ok-false.new.made.kept.items c.try_all-in-Ok-false.new.self) c.first-first.ensures (h e)))
