-- Nothing was sent by ends that were just made, and what comes back of a refused opening are these.
use Rattle.std.proofs.Common.{◌∙◌, sym, ap}
use Rattle.std.specs.List.{slice_get}
use Rattle.tests_of_runs.proofs.openings.is_refused.Goals as goal

pub open-requires-clause-unused : goal.open-requires-clause-unused
open-requires-clause-unused g c κs within k e at = (c.in-Ok.ensures.ends k e at).1

pub open-requires-2-clause-unused : goal.open-requires-2-clause-unused
open-requires-2-clause-unused g c κs within k e at =
    (c.in-Ok.ensures.ends k e (ap (λ l. slice_get l k) (sym c.in-Err.ensures.back.1) ∙ at)).1
