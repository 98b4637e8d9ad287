use Rattle.std.proofs.Common.{subst}
use Rattle.smi_core.specs.Output.{LineWrites}
use Rattle.smi_live_once.specs.Making.{Keeper, KeeperWrites}
use Rattle.smi_live.specs.Keeping.{IsNeverLogged, MayBeLogged}
use Rattle.smi_live.specs.Managing.{ManagerView, keeper_of}
use Rattle.smi_live.proofs.manager.Manager.make_again.Goals as goal

pub returns-in-Ok-true-clause-made : goal.returns-in-Ok-true-clause-made
returns-in-Ok-true-clause-made g c = λ _.
    let text = c.line_again.new.made.text.items in
    let k2 = c.line_again.new.keeper in
    let made = subst (λ l. KeeperWrites LineWrites c.self.inside.keeper l text k2) c.next_line-taken.ensures (c.in-Ok-true.ensures.made c.in-Ok-true.field-0-test) in
    subst (λ (m : ManagerView). KeeperWrites LineWrites (keeper_of m) c.args.line.now text k2) c.self.view_is made

pub returns-in-Ok-true-clause-logged : goal.returns-in-Ok-true-clause-logged
returns-in-Ok-true-clause-logged g c = λ _.
    let k2 = c.line_again.new.keeper in
    let logged = subst (λ l. MayBeLogged c.self.inside.keeper l k2) c.next_line-taken.ensures (c.in-Ok-true.ensures.logged c.in-Ok-true.field-0-test) in
    subst (λ (m : ManagerView). MayBeLogged (keeper_of m) c.args.line.now k2) c.self.view_is logged

pub returns-in-Ok-false-clause-never : goal.returns-in-Ok-false-clause-never
returns-in-Ok-false-clause-never g c = λ _.
    let never = subst (λ l. IsNeverLogged c.self.inside.keeper l) c.next_line-taken.ensures (c.in-Ok-false.ensures.never c.in-Ok-false.field-0-test) in
    subst (λ (m : ManagerView). IsNeverLogged (keeper_of m) c.args.line.now) c.self.view_is never
