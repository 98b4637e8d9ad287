use Rattle.sml_text.proofs.Decimals.{some_decimal, one_decimal, some_int_text, one_int_text}
use Rattle.sml_text.proofs.laws.laws_of_decimals.Goals as goal

pub returns-clause-some : goal.returns-clause-some
returns-clause-some c = some_decimal

pub returns-clause-one : goal.returns-clause-one
returns-clause-one c = one_decimal

pub returns-clause-some_int : goal.returns-clause-some_int
returns-clause-some_int c = some_int_text

pub returns-clause-one_int : goal.returns-clause-one_int
returns-clause-one_int c = one_int_text
