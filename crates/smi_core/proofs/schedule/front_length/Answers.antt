use Rattle.std.proofs.Common.{◌≡◌, ◌==◌, false, sym, subst, arith, take, get_or}
use Rattle.std.proofs.lemmas.Bool.Decides.{nat_tests}
use Rattle.std.proofs.lemmas.List.{take_more}
use Rattle.smi_core.specs.Feeds.{HasNoEnd}
use Rattle.smi_core.proofs.Fronts.{none_more}
use Rattle.smi_core.proofs.schedule.front_length.Goals as goal

pub loop-place-preserved : goal.loop-place-preserved
loop-place-preserved c =
    let xs = c.args.bytes.now in
    let i = c.loop-place.place in
    let more = take_more xs i 0 c.loop-place-test.true in
    let other : (get_or xs i 0 == 10) ≡ false = grind (arith, nat_tests) in
    subst HasNoEnd (sym more) (none_more (take i xs) (get_or xs i 0) c.loop-place.invariant other)
