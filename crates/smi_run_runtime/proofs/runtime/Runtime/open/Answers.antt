use Rattle.std.proofs.Common.{arith, ap, subst, length, ℕ}
use Rattle.std.specs.List.{All}
use Rattle.sml_domain.specs.Domain.{Domain}
use Rattle.smi_run_runtime.specs.Sessions.{AreEmptyRows}
use Rattle.smi_run_runtime.proofs.runtime.Runtime.open.Goals as goal

pub make_sessions-sessions-requires-clause-rows : goal.make_sessions-sessions-requires-clause-rows
make_sessions-sessions-requires-clause-rows g c =
    let e = c.in-Ok.ensures.rows in (
      omega (arith, e.0, c.len-count.ensures, c.args.ends.ok.0),
      subst (λ (n : ℕ). All (AreEmptyRows n) c.in-Ok.room.rows.items) (ap (λ (d : Domain). length d.objects) c.requires.domain) e.1,
    )
