use Rattle.std.proofs.Common.{sym, subst}
use Rattle.smi_live_once.specs.Forms.{IsUnmarked}
use Rattle.smi_live.proofs.own.OwnLine.text.Goals as goal

pub returns-clause-unmarked : goal.returns-clause-unmarked
returns-clause-unmarked c = subst IsUnmarked (sym c.deref.ensures.value) c.self.invariant.2
