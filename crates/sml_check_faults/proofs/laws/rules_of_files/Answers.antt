use Rattle.sml_check_faults.proofs.Rules.{keeps_rules, sound_is_well_formed}
use Rattle.sml_check_faults.proofs.laws.rules_of_files.Goals as goal

pub returns : goal.returns
returns c = record { sound = keeps_rules; suffices = sound_is_well_formed }
