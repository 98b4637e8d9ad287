use Rattle.std.proofs.Common.{◌∙◌, ◌++◌, [], ℕ, List, Bool, ap, codes, cond, sym}
use Rattle.sml_domain.specs.Domain.{Domain}
use Rattle.smi_journal.specs.CallText.{object_name_text, spaced}
use Rattle.sml_writer.proofs.Telling.{tells_again, then_tells}
use Rattle.smirun_run.proofs.summary.tell_stalled.Goals as goal

pub returns-then-is_stalled : goal.returns-then-is_stalled
returns-then-is_stalled g c =
    let line : Domain → List ℕ = λ d. codes "stalled" ++ (spaced (object_name_text d c.args.o) ++ codes "\n") in
    tells_again (then_tells c.say.ensures (then_tells c.tell_object.ensures c.say-then-is_stalled.ensures))
    (ap line c.domain.ensures ∙ ap (λ (b : Bool). cond b (line g.K.MailNames.names.domain) [])
    (sym c.if-is_stalled.true ∙ c.is_stalled.ensures))
