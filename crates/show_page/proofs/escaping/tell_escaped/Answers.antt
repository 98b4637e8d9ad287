use Rattle.std.proofs.Common.{ap}
use Rattle.std.proofs.lemmas.List.{take_all}
use Rattle.show_page.specs.Escapes.{escaped}
use Rattle.show_page.proofs.Tolds.{escaped_more}
use Rattle.sml_writer.proofs.Telling.{tells_again, then_tells}
use Rattle.show_page.proofs.escaping.tell_escaped.Goals as goal

pub loop-byte-preserved : goal.loop-byte-preserved
loop-byte-preserved g c =
    tells_again (then_tells c.loop-byte.invariant c.tell_escaped_byte.ensures)
    (escaped_more c.args.bytes.now c.loop-byte.byte-index c.loop-byte-test.true)

pub returns : goal.returns
returns g c =
    tells_again c.loop-byte.invariant
    (ap escaped (take_all c.loop-byte.byte-index c.args.bytes.now c.loop-byte-test.false))
