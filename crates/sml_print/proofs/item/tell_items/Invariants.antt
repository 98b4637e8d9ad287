use Rattle.std.proofs.Common.{take, flat_map}
use Rattle.sml_text.specs.Written.{Told, StaysDue}
use Rattle.sml_tree.specs.Content.{item_content}
use Rattle.sml_print.specs.Items.{item_text}
use Rattle.sml_print.proofs.item.tell_items.Given as goal

-- what was written is the text of those before
abbrev pub invariant-loop-item : goal.invariant-loop-item
invariant-loop-item g l =
    Told (g.S.Sink.contents l.fn.sink) l.fn.failed (g.S.Sink.contents l.sink) l.failed (flat_map (λ x. item_text (item_content x)) (take l.item-index l.items.items))
    × StaysDue (g.S.Sink.has_refused l.fn.sink) l.fn.failed (g.S.Sink.has_refused l.sink) l.failed
