-- Each turn reads one line.
use Rattle.std.proofs.Common.{◌≡◌, true, refl, arith, rules, tests}
use Rattle.smi_run_plan.proofs.Onward.{begin_read, next_line, last_line, taken, behind_some, behind_none}
use Rattle.smi_run_plan.proofs.plan.read_lines.Goals as goal

pub lines-init : goal.lines-init
lines-init c =
    let draft = c.args.draft.now in (
      begin_read c.args.domain.now c.args.text.now 1 draft.sessions.items draft.devices.items refl
          c.requires.sessions c.requires.devices,
      omega arith,
    )

pub returns-in_default-clause-read : goal.returns-in_default-clause-read
returns-in_default-clause-read c =
    let old = c.lines.draft in
    let new = c.add_line.new.draft in
    let good : c.in_ok-add_line.field-0 ≡ true = search (rules, tests) in
    last_line c.args.domain.now c.args.text.now c.lines.rest.now c.lines.number old.sessions.items
    new.sessions.items old.devices.items new.devices.items c.first_line.result.0.now
    c.lines.invariant.0 (behind_none c.first_line.result.1 _ _ c.in_default.is c.first_line.ensures.lines)
    (taken _ _ _ good c.in_ok-add_line.ensures)

pub lines-preserved : goal.lines-preserved
lines-preserved c =
    let old = c.lines.draft in
    let new = c.add_line.new.draft in
    let good : c.in_ok-add_line.field-0 ≡ true = search (rules, tests) in
    let behind = c.in-Some.behind in (
      next_line c.args.domain.now c.args.text.now c.lines.rest.now c.lines.number old.sessions.items
          new.sessions.items old.devices.items new.devices.items c.first_line.result.0.now
          c.lines.invariant.0 behind.now (behind_some c.first_line.result.1 behind _ _ c.in-Some.is
          c.first_line.ensures.lines) (taken _ _ _ good c.in_ok-add_line.ensures),
      (let shorter = behind_some c.first_line.result.1 behind _ _ c.in-Some.is c.first_line.ensures.shorter in omega
          (arith, c.lines.invariant.1, shorter)),
    )
