use Rattle.std.proofs.Common.{take, flat_map}
use Rattle.sml_text.specs.Written.{Told, StaysDue}
use Rattle.sml_tree.specs.Content.{instr_content}
use Rattle.sml_print.specs.Blocks.{instr_text}
use Rattle.sml_print.proofs.block.+blocks.Given as goal

-- what was written is the text of those before
abbrev pub invariant-tell_block-loop-instr : goal.invariant-tell_block-loop-instr
invariant-tell_block-loop-instr g l =
    Told (g.S.Sink.contents l.fn.sink) l.fn.failed (g.S.Sink.contents l.sink) l.failed (flat_map (λ x. instr_text l.level (instr_content x)) (take l.instr-index l.instr-items))
    × StaysDue (g.S.Sink.has_refused l.fn.sink) l.fn.failed (g.S.Sink.has_refused l.sink) l.failed
