use Rattle.std.proofs.Common.{◌∙◌, sym, ap}
use Rattle.sml_writer.proofs.Telling.{tells_again, then_tells}
use Rattle.smi_request_fates.specs.Kept.{WatchedView}
use Rattle.smirun_live.specs.Standing.{fate_text, stood_text, under_way_text}
use Rattle.smirun_live.proofs.standing.tell_fate.Goals as goal

pub returns-in-Waits : goal.returns-in-Waits
returns-in-Waits g c =
    tells_again (then_tells (tells_again c.tell_stood.ensures (ap (λ (w : WatchedView). stood_text c.args.domain.now w.object c.args.now) c.watched.view_is)) c.tell_under_way.ensures)
    (ap (fate_text c.args.domain.now c.args.watched.now c.args.now) (sym c.in-Waits.is))

pub returns-in-Open : goal.returns-in-Open
returns-in-Open g c =
    tells_again (then_tells (tells_again c.tell_stood-in-Open.ensures (ap (λ (w : WatchedView). stood_text c.args.domain.now w.object c.args.now) c.watched.view_is)) c.tell_under_way-in-Open.ensures)
    (ap (fate_text c.args.domain.now c.args.watched.now c.args.now) (sym c.in-Open.is))

pub returns-in-Ended : goal.returns-in-Ended
returns-in-Ended g c =
    tells_again (then_tells c.tell_stood-in-Ended.ensures c.say.ensures)
    (ap (fate_text c.args.domain.now (record { object = c.watched.inside.object; sender = c.watched.inside.sender; number = c.watched.inside.number; came = c.watched.inside.came }) c.args.now) (sym c.in-Ended.is) ∙ ap (λ (w : WatchedView). fate_text c.args.domain.now w c.args.now c.args.fate) c.watched.view_is)

pub returns-in-Skipped : goal.returns-in-Skipped
returns-in-Skipped g c =
    tells_again (then_tells c.tell_stood-in-Skipped.ensures c.say-in-Skipped.ensures)
    (ap (fate_text c.args.domain.now (record { object = c.watched.inside.object; sender = c.watched.inside.sender; number = c.watched.inside.number; came = c.watched.inside.came }) c.args.now) (sym c.in-Skipped.is) ∙ ap (λ (w : WatchedView). fate_text c.args.domain.now w c.args.now c.args.fate) c.watched.view_is)

pub returns-in-Killed : goal.returns-in-Killed
returns-in-Killed g c =
    tells_again (then_tells c.tell_stood-in-Killed.ensures c.say-in-Killed.ensures)
    (ap (fate_text c.args.domain.now (record { object = c.watched.inside.object; sender = c.watched.inside.sender; number = c.watched.inside.number; came = c.watched.inside.came }) c.args.now) (sym c.in-Killed.is) ∙ ap (λ (w : WatchedView). fate_text c.args.domain.now w c.args.now c.args.fate) c.watched.view_is)
