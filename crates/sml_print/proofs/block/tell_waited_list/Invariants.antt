use Rattle.std.proofs.Common.{take}
use Rattle.sml_text.specs.Written.{Told, StaysDue}
use Rattle.sml_tree.specs.Content.{waited_content}
use Rattle.sml_print.specs.Words.{comma_list}
use Rattle.sml_print.specs.Blocks.{waited_text}
use Rattle.sml_print.proofs.block.tell_waited_list.Given as goal

-- what was written is the text of those before
abbrev pub invariant-loop-i : goal.invariant-loop-i
invariant-loop-i g l =
    Told (g.S.Sink.contents l.fn.sink) l.fn.failed (g.S.Sink.contents l.sink) l.failed (comma_list (λ x. waited_text (waited_content x)) (take l.i l.waited.items))
    × StaysDue (g.S.Sink.has_refused l.fn.sink) l.fn.failed (g.S.Sink.has_refused l.sink) l.failed
