use Rattle.smi_log_front.proofs.KillLines.{kill_read, no_kill_front, no_kill_session}
use Rattle.smi_log_front.proofs.kills.next_kill.Goals as goal

pub returns-in_default-clause-none : goal.returns-in_default-clause-none
returns-in_default-clause-none c = no_kill_front c.args.domain.now c.args.o c.args.text.now c.in_default.ensures

pub returns-in_default-next_session-clause-none : goal.returns-in_default-next_session-clause-none
returns-in_default-next_session-clause-none c =
    no_kill_session c.args.domain.now c.args.o c.args.text.now c.in-Some.words.now c.in-Some.ensures
    c.in_default-next_session.ensures.none

pub returns-clause-some : goal.returns-clause-some
returns-clause-some c =
    kill_read c.args.domain.now c.args.o c.args.text.now c.in-Some.words.now c.in-Some.ensures
    c.in-Some-next_session.next.0 c.in-Some-next_session.next.1.now c.in-Some-next_session.ensures.some
