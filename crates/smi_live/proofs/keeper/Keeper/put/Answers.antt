use Rattle.std.proofs.Common.{sym, subst}
use Rattle.smi_core.specs.Machines.{CoreView}
use Rattle.smi_live_accounts.specs.Requested.{RequestedAs}
use Rattle.smi_live_once.specs.Making.{Keeper}
use Rattle.smi_live.proofs.keeper.Keeper.put.Goals as goal

pub invariant_of-self : goal.invariant_of-self
invariant_of-self c =
    let m = c.self.inside.core in
    let asked = subst (λ (k : Keeper CoreView). RequestedAs k.core.setup.domain k.core.world.journal c.args.requested c.args.answer.now) (sym c.self.view_is) c.requires in
    let watched = c.watched_of-watched.ensures.came m.setup.domain m.world.journal c.args.answer.now c.self.invariant.1 asked in
    (c.self.invariant.0, c.put.ensures.tells m.setup.domain m.world.journal c.self.invariant.1 watched.0 watched.1, c.self.invariant.2)
