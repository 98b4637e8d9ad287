-- The laws of the journal that is followed.
use Rattle.smi_audit_follower.proofs.Journals.{shown_out, shown_in, wait_out, wait_in, end_out, end_in, ends_leave}
use Rattle.smi_audit_follower.proofs.laws.laws_of_following.Goals as goal

pub returns-clause-shown : goal.returns-clause-shown
returns-clause-shown c = λ format d J o f item h. (shown_out format d J o f item h, shown_in format d J o f item h)

pub returns-clause-wait : goal.returns-clause-wait
returns-clause-wait c = λ format d J o f objects h a. (wait_out format d J o f objects h a, wait_in format d J o f objects h a)

pub returns-clause-ends : goal.returns-clause-ends
returns-clause-ends c = λ format d J o f s h. (end_out format d J o f s h, end_in format d J o f s h)

pub returns-clause-leaves : goal.returns-clause-leaves
returns-clause-leaves c = λ format d J o f s own2 h e. ends_leave format d J o f s own2 h e
