use Rattle.std.proofs.Common.{sym, refl, subst}
use Rattle.smi_core.specs.Output.{LineWrites}
use Rattle.smi_live_once.specs.Making.{KeeperDoes}
use Rattle.smi_live.specs.Limiting.{room_after}
use Rattle.smi_live.specs.Managing.{ManagerTakesLine, ManagerView, TakesLine, keeper_of, makes_line}
use Rattle.smi_live.proofs.manager.ManagerMachine.take.Goals as goal

pub returns-in-Ok-clause-made : goal.returns-in-Ok-clause-made
returns-in-Ok-clause-made g c =
    let kept = c.take_line.new.made.kept.items in
    let text = c.take_line.new.made.text.items in
    let does = subst (λ (m : ManagerView). KeeperDoes LineWrites (keeper_of m) kept text c.take_line.new.keeper) c.self.view_is c.in-Ok.ensures.made in
    subst (λ m2. makes_line c.args.self.now kept text m2) (sym c.count_line.ensures) does

pub returns-in-Ok-clause-takes : goal.returns-in-Ok-clause-takes
returns-in-Ok-clause-takes g c =
    let i = c.self.inside in
    let asked = c.args.asked.now in
    let kept = c.take_line.new.made.kept.items in
    let text = c.take_line.new.made.text.items in
    let k2 = c.take_line.new.keeper in
    let m : ManagerView = record { core = i.keeper.core; turn = i.turn; told = i.keeper.told; room = i.room } in
    let m2 : ManagerView = record { core = k2.core; turn = i.turn; told = k2.told; room = room_after i.room kept } in
    let takes : ManagerTakesLine m asked kept text m2 = record {
      takes = subst (λ l. TakesLine i.room i.keeper l kept text k2) c.next_line-taken.ensures c.in-Ok.ensures.takes;
      stays = refl;
      leaves = refl;
    } in
    subst (λ n. ManagerTakesLine c.args.self.now asked kept text n) (sym c.count_line.ensures) (subst (λ n. ManagerTakesLine n asked kept text m2) c.self.view_is takes)
