-- The plan holds what the draft held.
use Rattle.std.proofs.Common.{◌∙◌, sym, subst}
use Rattle.std.specs.Prelude.{Vec}
use Rattle.std.specs.Global.{Global}
use Rattle.smi_run_plan.specs.declared.device.ScriptDevice.{ScriptDevice}
use Rattle.smi_run_plan.specs.Plans.{HoldAnswers}
use Rattle.smi_run_plan.proofs.Cuts.{planned, planned_count}
use Rattle.smi_run_plan.proofs.plan.read_script.Goals as goal

pub returns-clause-plan : goal.returns-clause-plan
returns-clause-plan c =
    let plan = c.in_ok-plan_of.field-0 in
    let held = c.in_ok-read_lines.ensures.read in
    let lists = c.read_lines.new.draft.sessions.items in
    let same = c.in_ok-plan_of.ensures.scripts in
    record {
      saids = held.saids;
      says = held.says;
      plan = record {
        sessions = planned_count plan.scripts.items lists same ∙ held.sessions.count;
        scripts = λ i. planned plan.scripts.items lists same i ∙ held.sessions.parts i;
        devices = subst (λ (v : Vec ScriptDevice Global). HoldAnswers c.args.domain.now held.saids v.items)
            (sym c.in_ok-plan_of.ensures.devices) held.answers;
      };
    }
