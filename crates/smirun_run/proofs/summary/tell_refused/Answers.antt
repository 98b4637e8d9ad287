use Rattle.std.proofs.Common.{◌++◌, ◌+◌, ℕ, List, arith, codes, get_or}
use Rattle.sml_text.specs.Decimal.{decimal_text}
use Rattle.smirun_run.proofs.Lines.{line_counted}
use Rattle.sml_writer.proofs.Telling.{tells_again, then_tells}
use Rattle.smirun_run.proofs.summary.tell_refused.Goals as goal

pub returns : goal.returns
returns g c =
    let front : List ℕ = codes "refused @" ++ decimal_text (c.args.place + 1) in
    let before = then_tells c.say.ensures c.number.ensures in
    let behind = then_tells c.tell_number.ensures c.say-2.ensures in
    tells_again (then_tells before behind) (line_counted front (get_or c.args.refused.now c.args.place 0) (omega arith))
