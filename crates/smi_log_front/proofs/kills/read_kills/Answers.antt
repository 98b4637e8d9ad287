use Rattle.std.proofs.Common.{arith, subst, sym}
use Rattle.smi_log_front.specs.Reading.{TakesKill}
use Rattle.smi_log_front.proofs.KillLines.{KillsSoFar, kills_begin, kills_step, no_kill_end}
use Rattle.smi_log_front.proofs.kills.read_kills.Goals as goal

pub loop-o-init : goal.loop-o-init
loop-o-init c =
    let text = c.args.text.now in
    subst (λ l. KillsSoFar c.args.domain.now text l 0 text) (sym c.new-kills.ensures.items) (kills_begin c.args.domain.now text)

pub loop-o-preserved : goal.loop-o-preserved
loop-o-preserved c =
    let d = c.args.domain.now in
    let rest = c.loop-o.rest.now in
    let more = c.in_ok-rest.rest.now in
    let ys = c.take_kill.new.kills.items in
    let lt = c.loop-o-test.true in
    let objects = c.objects-objects.ensures.count in
    let read : TakesKill d c.loop-o.o c.loop-o.kills.items rest ys more
    = subst (λ k. TakesKill d k c.loop-o.kills.items rest ys more) c.new.ensures c.in_ok-rest.ensures in
    kills_step d c.args.text.now c.loop-o.kills.items c.loop-o.o rest c.loop-o.invariant ys more (omega (arith, lt, objects)) read

pub returns-clause-none : goal.returns-clause-none
returns-clause-none c =
    let done = c.loop-o-test.false in
    let objects = c.objects-objects.ensures.count in
    no_kill_end c.args.domain.now c.loop-o.kills.items c.loop-o.o c.loop-o.rest.now (omega (arith, done, objects)) c.loop-o.invariant.none
