use Rattle.std.proofs.Common.{subst, sym}
use Rattle.sml_text.specs.Front.{IsFront}
use Rattle.sml_text.proofs.Fronts.{front_is}
use Rattle.sml_text.proofs.front.front_at.Goals as goal

pub returns : goal.returns
returns c = subst (IsFront c.args.source c.args.text.now) (sym c.scan.ensures) (front_is c.args.source c.args.text.now)
