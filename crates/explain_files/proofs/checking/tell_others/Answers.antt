use Rattle.explain_files.proofs.Tolds.{others_whole}
use Rattle.sml_writer.proofs.Telling.{tells_again, then_tells}
use Rattle.explain_files.proofs.checking.tell_others.Goals as goal

pub returns : goal.returns
returns g c =
    let file = tells_again c.say.ensures c.as_bytes.ensures.value in
    let word = tells_again c.say-3.ensures c.faults_word.ensures in
    tells_again (then_tells (then_tells (then_tells file c.say-2.ensures) c.number.ensures) word)
    (others_whole _ c.args.count c.requires)
