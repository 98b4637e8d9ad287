use Rattle.sml_text.proofs.Streams.{some_reading, one_reading, one_tokens, one_bad, tokens_are, read_tokens, bad_read}
use Rattle.sml_text.proofs.laws.laws_of_tokens.Goals as goal

pub returns-clause-some : goal.returns-clause-some
returns-clause-some c = some_reading

pub returns-clause-one : goal.returns-clause-one
returns-clause-one c = one_reading

pub returns-clause-one_tokens : goal.returns-clause-one_tokens
returns-clause-one_tokens c = one_tokens

pub returns-clause-one_bad : goal.returns-clause-one_bad
returns-clause-one_bad c = one_bad

pub returns-clause-tokens_from : goal.returns-clause-tokens_from
returns-clause-tokens_from c = tokens_are

pub returns-clause-from_tokens : goal.returns-clause-from_tokens
returns-clause-from_tokens c = read_tokens

pub returns-clause-bad_from : goal.returns-clause-bad_from
returns-clause-bad_from c = bad_read
