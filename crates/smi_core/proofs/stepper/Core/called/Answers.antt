-- Each object is called by some name.
use Rattle.std.proofs.Common.{subst}
use Rattle.sml_domain.specs.Sound.{IsSound}
use Rattle.smi_core.proofs.Called.{called}
use Rattle.smi_core.proofs.stepper.Core.called.Goals as goal

pub returns : goal.returns
returns c = called c.laws_of_domains.ensures.objects c.args.self.now.setup.domain c.args.o (subst IsSound c.domain.ensures c.objects-sound.ensures.sound) c.requires
