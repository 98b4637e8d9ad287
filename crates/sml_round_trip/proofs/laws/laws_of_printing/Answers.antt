use Rattle.sml_print.specs.Items.{file_text}
use Rattle.sml_round_trip.proofs.Said.{file_said, file_holds}
use Rattle.sml_round_trip.proofs.laws.laws_of_printing.Goals as goal

pub returns-clause-said : goal.returns-clause-said
returns-clause-said c file =
    let grammar = c.laws_of_grammar.ensures in (
      λ h. let held = file_holds grammar.limits grammar.brackets (file_text file) file h in (held.0, held.1, held.2, h.0),
      λ h. file_said grammar.limits file h.0 h.2 h.1 h.3,
    )

pub returns-clause-round_trip : goal.returns-clause-round_trip
returns-clause-round_trip c text file h short =
    let grammar = c.laws_of_grammar.ensures in
    let held = file_holds grammar.limits grammar.brackets text file h in
    let said = file_said grammar.limits file held.0 held.2 held.1 short in
    (said, λ other k. c.laws_of_files.ensures.one_file (file_text file) file other said k)

pub returns-clause-writable : goal.returns-clause-writable
returns-clause-writable c text file h = let grammar = c.laws_of_grammar.ensures in (file_holds grammar.limits grammar.brackets text file h).0
