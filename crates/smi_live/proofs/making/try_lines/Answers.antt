use Rattle.std.proofs.Common.{◌≡◌, ℕ, List, Some, subst}
use Rattle.smi_core.specs.Machines.{CoreView}
use Rattle.smi_core.specs.Stepping.{RestsAt}
use Rattle.sml_domain.specs.Lookups.{object_named}
use Rattle.smi_live.proofs.Resting.{idle_known}
use Rattle.smi_live.proofs.making.try_lines.Goals as goal

pub returns-in-Ok-true-clause-unmarked : goal.returns-in-Ok-true-clause-unmarked
returns-in-Ok-true-clause-unmarked g c = λ _. c.in-Ok-true.ensures.unmarked c.in-Ok-true.field-0-test

pub returns-then-rests_at-clause-idle : goal.returns-then-rests_at-clause-idle
returns-then-rests_at-clause-idle g c = λ _.
    let m = c.core.result.now in
    let known = subst (λ (n : ℕ). (x : List ℕ) → object_named m.setup.domain x ≡ Some n
    → RestsAt m.setup m.world x) c.new.ensures (c.rests_at.ensures c.if-rests_at.true) in
    idle_known c.args.keeper.now.core c.args.o c.args.lines.now c.requires.own
    (subst (λ (v : CoreView). (x : List ℕ) → object_named v.setup.domain x ≡ Some c.args.o
    → RestsAt v.setup v.world x) c.core.ensures known)
