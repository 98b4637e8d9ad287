use Rattle.std.proofs.Common.{ap, length}
use Rattle.sml_text.specs.Decimal.{decimal_text}
use Rattle.sml_writer.proofs.Telling.{tells_again, then_tells}
use Rattle.smi_journal.specs.CallText.{spaced}
use Rattle.smirun_live.specs.Standing.{all_counts_lines, all_once_lines}
use Rattle.smirun_live.proofs.standing.tell_accounts.Goals as goal

pub returns : goal.returns
returns g c =
    let a = c.args.accounts.now in
    then_tells (tells_again c.tell_counts.ensures (ap (λ d. all_counts_lines d a.fates.counts) c.domain.ensures))
    (then_tells (tells_again c.tell_each_once.ensures (ap (λ d. all_once_lines d a) c.domain-2.ensures))
    (then_tells c.say.ensures (then_tells (tells_again c.tell_number.ensures (ap (λ J. spaced (decimal_text (length J))) c.journal.ensures.is)) c.say-2.ensures)))
