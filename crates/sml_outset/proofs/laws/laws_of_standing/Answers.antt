use Rattle.sml_outset.proofs.Sounds.{same_object_names, standing_is_sound, standing_stands}
use Rattle.sml_outset.proofs.laws.laws_of_standing.Goals as goal

pub returns-clause-names : goal.returns-clause-names
returns-clause-names c = same_object_names

pub returns-clause-sound : goal.returns-clause-sound
returns-clause-sound c = standing_is_sound

pub returns-clause-stands : goal.returns-clause-stands
returns-clause-stands c = standing_stands
