use Rattle.std.proofs.Common.{take}
use Rattle.sml_text.specs.Written.{Told, StaysDue}
use Rattle.sml_print.specs.Words.{comma_list, name_text}
use Rattle.sml_print.proofs.word.tell_names.Given as goal

-- what was written is the text of those before
abbrev pub invariant-loop-i : goal.invariant-loop-i
invariant-loop-i g l =
    Told (g.S.Sink.contents l.fn.sink) l.fn.failed (g.S.Sink.contents l.sink) l.failed (comma_list name_text (take l.i l.names))
    × StaysDue (g.S.Sink.has_refused l.fn.sink) l.fn.failed (g.S.Sink.has_refused l.sink) l.failed
