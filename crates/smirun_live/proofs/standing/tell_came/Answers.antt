use Rattle.std.proofs.Common.{◌∙◌, sym, ap}
use Rattle.sml_writer.proofs.Telling.{tells_again, then_tells}
use Rattle.smi_request_fates.specs.Kept.{WatchedView}
use Rattle.smirun_live.specs.Standing.{came_text, stood_text}
use Rattle.smirun_live.proofs.standing.tell_came.Goals as goal

pub returns-in-Accepted : goal.returns-in-Accepted
returns-in-Accepted g c =
    tells_again c.tell_fate.ensures
    (ap (came_text c.args.domain.now c.args.watched.now c.args.now c.args.answer.now) (sym c.in-Accepted.is ∙ ap (λ (w : WatchedView). w.came) c.watched.view_is))

pub returns-in-Refused : goal.returns-in-Refused
returns-in-Refused g c =
    tells_again (then_tells (tells_again c.tell_stood.ensures (ap (λ (w : WatchedView). stood_text c.args.domain.now w.object c.in-Refused.at) c.watched.view_is)) (then_tells c.say.ensures c.say-in-Refused.ensures))
    (ap (came_text c.args.domain.now c.args.watched.now c.args.now c.args.answer.now) (sym c.in-Refused.is ∙ ap (λ (w : WatchedView). w.came) c.watched.view_is))

pub returns-in-Past : goal.returns-in-Past
returns-in-Past g c =
    tells_again (then_tells (tells_again c.tell_stood-in-Past.ensures (ap (λ (w : WatchedView). stood_text c.args.domain.now w.object c.in-Past.at) c.watched.view_is)) (tells_again c.say-in-Past.ensures c.after_past.ensures))
    (ap (came_text c.args.domain.now c.args.watched.now c.args.now c.args.answer.now) (sym c.in-Past.is ∙ ap (λ (w : WatchedView). w.came) c.watched.view_is))
