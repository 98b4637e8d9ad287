use Rattle.std.proofs.Common.{take, flat_map}
use Rattle.sml_text.specs.Written.{Told, StaysDue}
use Rattle.sml_tree.specs.Content.{state_content}
use Rattle.sml_print.specs.Items.{state_text}
use Rattle.sml_print.proofs.item.tell_states.Given as goal

-- what was written is the text of those before
abbrev pub invariant-loop-state : goal.invariant-loop-state
invariant-loop-state g l =
    Told (g.S.Sink.contents l.fn.sink) l.fn.failed (g.S.Sink.contents l.sink) l.failed (flat_map (λ x. state_text (state_content x)) (take l.state-index l.states.items))
    × StaysDue (g.S.Sink.has_refused l.fn.sink) l.fn.failed (g.S.Sink.has_refused l.sink) l.failed
