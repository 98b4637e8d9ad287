use Rattle.std.proofs.Common.{take}
use Rattle.sml_writer.specs.Tells.{Tells}
use Rattle.show_page.specs.Escapes.{escaped}
use Rattle.show_page.proofs.escaping.tell_escaped.Given as goal

-- what was written is the text of those before
abbrev pub invariant-loop-byte : goal.invariant-loop-byte
invariant-loop-byte g l =
    Tells g.S.Sink.contents g.S.Sink.has_refused l.fn.out l.out (escaped (take l.byte-index l.bytes))
