use Rattle.std.proofs.Common.{take}
use Rattle.sml_text.specs.Written.{Told, StaysDue}
use Rattle.sml_tree.specs.Content.{action_param_content}
use Rattle.sml_print.specs.Words.{comma_list, action_param_text}
use Rattle.sml_print.proofs.word.tell_action_param_list.Given as goal

-- what was written is the text of those before
abbrev pub invariant-loop-i : goal.invariant-loop-i
invariant-loop-i g l =
    Told (g.S.Sink.contents l.fn.sink) l.fn.failed (g.S.Sink.contents l.sink) l.failed (comma_list (λ x. action_param_text (action_param_content x)) (take l.i l.params.items))
    × StaysDue (g.S.Sink.has_refused l.fn.sink) l.fn.failed (g.S.Sink.has_refused l.sink) l.failed
