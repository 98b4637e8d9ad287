use Rattle.smi_request_fates.proofs.Opened.{open_is_open, letter_is_open}
use Rattle.smi_request_fates.proofs.Adding.{one_more_fate}
use Rattle.smi_request_fates.proofs.Staying.{fates_stay, starts_once, unstarted_wait}
use Rattle.smi_request_fates.proofs.Ending.{stands_after}
use Rattle.smi_request_fates.proofs.laws.laws_of_fates.Goals as goal

pub returns-clause-more : goal.returns-clause-more
returns-clause-more c = one_more_fate

pub returns-clause-stay : goal.returns-clause-stay
returns-clause-stay c = fates_stay

pub returns-clause-after : goal.returns-clause-after
returns-clause-after c = stands_after

pub returns-clause-once : goal.returns-clause-once
returns-clause-once c = starts_once

pub returns-clause-unstarted : goal.returns-clause-unstarted
returns-clause-unstarted c = unstarted_wait

pub returns-clause-opened : goal.returns-clause-opened
returns-clause-opened c = open_is_open

pub returns-clause-letter : goal.returns-clause-letter
returns-clause-letter c = letter_is_open
