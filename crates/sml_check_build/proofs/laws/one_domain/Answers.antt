use Rattle.sml_check_build.proofs.Alike.{files_have_one_domain}
use Rattle.sml_check_build.proofs.laws.one_domain.Goals as goal

pub returns : goal.returns
returns c = files_have_one_domain
