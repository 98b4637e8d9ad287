use Rattle.std.proofs.Common.{◌≤◌, ap, sym, ◌∙◌, Err, rules, length, []}
use Rattle.sml_text.specs.declared.source.Source.TheVariants.{Domain}
use Rattle.sml_read.specs.declared.error.ReadErrorKind.TheVariants as kinds
use Rattle.sml_read.specs.Promise.{read_refusal}
use Rattle.sml_read.proofs.Late.{late, derived}
use Rattle.sml_read.proofs.Only.{said, memory_alone}
use Rattle.sml_read.proofs.reading.read.Goals as goal
use Rattle.sml_read.specs.declared.reading.TheConstants.{MAX_TEXT}

pub returns-in-Some-first_bad-clause-bad_token : goal.returns-in-Some-first_bad-clause-bad_token
returns-in-Some-first_bad-clause-bad_token g c k short ascii bad =
    let one = c.laws_of_tokens.ensures.one_bad Domain c.args.text.now c.in-Some-first_bad.offset k c.in-Some-first_bad.ensures bad in
    ap (λ n. Err (read_refusal kinds.BadToken n)) one

pub returns-in-Ok-clause-read : goal.returns-in-Ok-clause-read
returns-in-Ok-clause-read g c =
    let tokens = c.in_default-first_bad.ensures in
    let short : length c.args.text.now ≤ MAX_TEXT = search rules in (
      short,
      sym c.foreign_at.ensures ∙ c.in_default.is,
      (tokens.0, tokens.1, derived c.args.text.now tokens.0 _ (c.laws_of_tokens.ensures.tokens_from Domain 0 c.args.text.now tokens.0 tokens.1) c.in-Ok.ensures),
    )

pub returns-in-Ok-clause-bad_token : goal.returns-in-Ok-clause-bad_token
returns-in-Ok-clause-bad_token g c k short ascii bad =
    let tokens = c.in_default-first_bad.ensures in
    absurd (c.laws_of_tokens.ensures.one Domain c.args.text.now tokens.0 k tokens.1 bad)

pub returns-clause-refused : goal.returns-clause-refused
returns-clause-refused g c =
    let tokens = c.in_default-first_bad.ensures in
    let short : length c.args.text.now ≤ MAX_TEXT = search rules in
    let cause = late {X = Unit {0}} (λ _. []) c.args.text.now tokens.0 c.in-Err.stop short (sym c.foreign_at.ensures ∙ c.in_default.is) tokens.1
    (c.laws_of_tokens.ensures.tokens_from Domain 0 c.args.text.now tokens.0 tokens.1) c.in-Err.ensures in
    rw c.error_of.ensures cause

pub returns-clause-bad_token : goal.returns-clause-bad_token
returns-clause-bad_token g c k short ascii bad =
    let tokens = c.in_default-first_bad.ensures in
    absurd (c.laws_of_tokens.ensures.one Domain c.args.text.now tokens.0 k tokens.1 bad)

pub returns-in-Ok-clause-complete : goal.returns-in-Ok-clause-complete
returns-in-Ok-clause-complete g c file h =
    said c.args.text.now h.2.0 file _ (c.laws_of_tokens.ensures.tokens_from Domain 0 c.args.text.now h.2.0 h.2.1) c.in-Ok.ensures h.2.2

pub returns-clause-complete : goal.returns-clause-complete
returns-clause-complete g c file h =
    let memory = memory_alone {X = Unit {0}} (λ _. []) c.args.text.now h.2.0 file c.in-Err.stop (c.laws_of_tokens.ensures.tokens_from Domain 0 c.args.text.now h.2.0 h.2.1) c.in-Err.ensures h.2.2 in
    rw c.error_of.ensures memory
