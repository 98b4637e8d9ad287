use Rattle.std.proofs.Common.{◌++◌, option_map, subst}
use Rattle.std.specs.Prelude.{codes}
use Rattle.sml_domain.specs.Domain.{Param}
use Rattle.smi_journal.specs.CallText.{spaced}
use Rattle.smi_outset_text.specs.OutsetText.{keyed_object, outset_param_front}
use Rattle.smi_outset_text.specs.Reading.{FollowsFront}
use Rattle.smi_outset_text.proofs.Fronts.{follows_both}
use Rattle.smi_outset_text.proofs.params.behind_equals.Goals as goal

pub returns-in-Some : goal.returns-in-Some
returns-in-Some c =
    let front = keyed_object (codes "! param") c.args.domain.now c.args.o in
    let r = option_map (λ more. more.now) c.behind_last.result in
    subst (λ (p : Param). FollowsFront c.args.text.now (outset_param_front c.args.domain.now c.args.o p) r) c.param.view_is
    (follows_both c.args.text.now front c.in-Some.more.now (spaced c.param.inside.name ++ codes "=") r c.in-Some.ensures
    c.behind_last.ensures)
