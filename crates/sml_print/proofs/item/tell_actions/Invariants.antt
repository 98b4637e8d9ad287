use Rattle.std.proofs.Common.{take, flat_map}
use Rattle.sml_text.specs.Written.{Told, StaysDue}
use Rattle.sml_tree.specs.Content.{action_content}
use Rattle.sml_print.specs.Items.{action_text}
use Rattle.sml_print.proofs.item.tell_actions.Given as goal

-- what was written is the text of those before
abbrev pub invariant-loop-action : goal.invariant-loop-action
invariant-loop-action g l =
    Told (g.S.Sink.contents l.fn.sink) l.fn.failed (g.S.Sink.contents l.sink) l.failed (flat_map (λ x. action_text (action_content x)) (take l.action-index l.actions.items))
    × StaysDue (g.S.Sink.has_refused l.fn.sink) l.fn.failed (g.S.Sink.has_refused l.sink) l.failed
