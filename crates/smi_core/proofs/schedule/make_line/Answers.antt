use Rattle.std.proofs.Common.{◌≡◌, ◌∙◌, ap, Ok, Err, sym, subst, List, ℕ, [], ◌++◌, Result, Option}
use Rattle.std.specs.Prelude.{◌⊎◌, OnErr}
use Rattle.std.specs.Io.KnownBytes.{Appends}
use Rattle.smi_world.specs.declared.step.Step.{Step}
use Rattle.smi_lines.specs.declared.line.LineError.{LineError}
use Rattle.smi_core.specs.declared.schedule.LineFault.TheVariants.{Write}
use Rattle.smi_core.specs.Output.{Writes}
use Rattle.smi_core.proofs.schedule.make_line.Goals as goal

pub returns-in-Ok-Some-clause-err : goal.returns-in-Ok-Some-clause-err
returns-in-Ok-Some-clause-err g c =
    let old = g.W.Sink.contents c.args.writer.now in
    let new = g.W.Sink.contents c.step_line.new.writer in
    let P : Result (Option Step) LineError → Type 0 = λ r. OnErr c.step_line.result
    (((c.step_line.new.core ≡ c.args.core.now) × Appends old new [])
    ⊎ ((c.step_line.result ≡ Err Write) × (out : List ℕ) × (unwritten : List ℕ) × Writes c.args.core.now r (out ++ unwritten) c.step_line.new.core × Appends old new out)) in
    subst P (sym (c.in-Ok-Some.is ∙ ap Ok c.in-Ok-Some.field-0-is)) c.step_line.ensures.err
