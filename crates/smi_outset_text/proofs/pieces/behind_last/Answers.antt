use Rattle.std.proofs.Common.{option_map}
use Rattle.smi_journal.specs.CallText.{name_or_nothing, spaced}
use Rattle.smi_outset_text.proofs.Fronts.{follows_both}
use Rattle.smi_outset_text.proofs.pieces.behind_last.Goals as goal

pub returns-in-Some : goal.returns-in-Some
returns-in-Some c =
    follows_both c.args.text.now (spaced (name_or_nothing c.args.name)) c.in-Some.more.now c.args.end.now
    (option_map (λ more. more.now) c.behind.result) c.in-Some.ensures c.behind.ensures
