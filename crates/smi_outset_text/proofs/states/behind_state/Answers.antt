use Rattle.std.proofs.Common.{◌++◌, option_map, subst}
use Rattle.std.specs.Prelude.{codes}
use Rattle.smi_journal.specs.CallText.{name_or_nothing, spaced}
use Rattle.smi_outset_text.specs.OutsetText.{keyed_object}
use Rattle.smi_outset_text.specs.Reading.{FollowsFront}
use Rattle.smi_outset_text.proofs.Fronts.{follows_both}
use Rattle.smi_outset_text.proofs.states.behind_state.Goals as goal

pub returns-in-Some : goal.returns-in-Some
returns-in-Some c =
    let front = keyed_object (codes "! state") c.args.domain.now c.args.o in
    let r = option_map (λ more. more.now) c.behind_last.result in
    subst (λ n. FollowsFront c.args.text.now (front ++ (spaced (name_or_nothing n) ++ codes "\n")) r) c.state_name.ensures
    (follows_both c.args.text.now front c.in-Some.more.now (spaced (name_or_nothing c.state_name.result) ++ codes "\n") r
    c.in-Some.ensures c.behind_last.ensures)
