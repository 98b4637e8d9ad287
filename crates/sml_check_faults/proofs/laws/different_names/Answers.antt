use Rattle.sml_check_faults.proofs.NoPairs.{no_pairs}
use Rattle.sml_check_faults.proofs.OnlyPairs.{only_pairs}
use Rattle.sml_check_faults.proofs.laws.different_names.Goals as goal

pub returns : goal.returns
returns c = record { differ = no_pairs; suffices = only_pairs }
