use Rattle.sml_text.specs.Written.{Told, StaysDue}
use Rattle.sml_print.specs.Words.{indent}
use Rattle.sml_print.proofs.word.tell_indent.Given as goal

-- what was written is the text of those before
abbrev pub invariant-loop : goal.invariant-loop
invariant-loop g l =
    Told (g.S.Sink.contents l.fn.sink) l.fn.failed (g.S.Sink.contents l.sink) l.failed (indent l.counter)
    × StaysDue (g.S.Sink.has_refused l.fn.sink) l.fn.failed (g.S.Sink.has_refused l.sink) l.failed
