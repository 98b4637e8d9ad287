use Rattle.smi_log_front.proofs.Fronts.{none_is_bad_law, one_front_law}
use Rattle.smi_log_front.proofs.Going.{none_goes_on_law}
use Rattle.smi_log_front.proofs.laws.laws_of_fronts.Goals as goal

pub returns-clause-one : goal.returns-clause-one
returns-clause-one c = one_front_law c.laws_of_outset_texts.ensures.one c.laws_of_carried.ensures

pub returns-clause-good : goal.returns-clause-good
returns-clause-good c =
    none_is_bad_law c.laws_of_outset_texts.ensures.one c.laws_of_carried.ensures c.laws_of_outset_texts.ensures.good

pub returns-clause-stop : goal.returns-clause-stop
returns-clause-stop c = none_goes_on_law c.laws_of_outset_texts.ensures.one c.laws_of_carried.ensures
