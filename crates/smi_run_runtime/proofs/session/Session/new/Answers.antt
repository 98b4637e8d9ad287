use Rattle.std.proofs.Common.{◌≡◌, ◌∙◌, sym}
use Rattle.smi_run_runtime.proofs.Accepting.{fresh}
use Rattle.smi_run_runtime.proofs.session.Session.new.Goals as goal

pub invariant_of-result : goal.invariant_of-result
invariant_of-result g c = (fresh c.args.accepted.items c.args.end.sent (c.requires.wide ∙ sym c.is_wide.ensures) c.requires.empty c.requires.sent, c.requires.wide)
