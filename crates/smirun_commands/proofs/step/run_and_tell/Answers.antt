use Rattle.std.proofs.Common.{[], refl, inr}
use Rattle.std.proofs.KnownBytes.{Appends-nil}
use Rattle.smirun_commands.proofs.step.run_and_tell.Goals as goal

pub returns-in-Err-clause-err : goal.returns-in-Err-clause-err
returns-in-Err-clause-err g c = (_, ([], Appends-nil _, λ _. refl), inr c.in-Err.ensures.err)
