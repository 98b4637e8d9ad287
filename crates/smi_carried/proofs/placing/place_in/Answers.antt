use Rattle.std.proofs.Common.{refl}
use Rattle.smi_carried.proofs.Places.{place_neither}
use Rattle.smi_carried.proofs.placing.place_in.Goals as goal

pub returns-then-is_nowhere-clause-some : goal.returns-then-is_nowhere-clause-some
returns-then-is_nowhere-clause-some c =
    let words = c.is_nowhere.ensures.yes c.if-is_nowhere.true in
    record { suits = refl; held = tt; object = words.0; state = words.1; version = words.2 }

pub returns-in-None-clause-none : goal.returns-in-None-clause-none
returns-in-None-clause-none c =
    place_neither c.args.domain.now c.args.object.now c.args.state.now c.args.version
    (c.is_nowhere.ensures.no c.if-is_nowhere.false) c.in-None.ensures.none
