use Rattle.std.proofs.lemmas.Bool.{lt-ltb}
use Rattle.sml_read_parts.proofs.Passing.{passed_name_err, passed_sign_err, passed_value_err, passed_ok}
use Rattle.sml_read_parts.proofs.Stopped.{handed}
use Rattle.sml_read_parts.proofs.reader.Reader.passed.Goals as goal
use Rattle.sml_tree.specs.declared.limits.TheConstants.{MAX_ARGUMENTS}

pub returns-in_err-name-clause-read : goal.returns-in_err-name-clause-read
returns-in_err-name-clause-read g c =
    rw (handed _ c.in_err-name.field-0.0 c.from_residual.ensures.1)
    (passed_name_err c.args.before c.args.self.now c.limited.new.self c.in_err-name.field-0.0 c.in_err-name.ensures.read)

pub returns-in_err-sign-clause-read : goal.returns-in_err-sign-clause-read
returns-in_err-sign-clause-read g c =
    let named = c.in_ok-name.ensures.read in
    let room = lt-ltb c.args.before MAX_ARGUMENTS c.in_ok-name.ensures.room in
    rw (handed _ c.in_err-sign.field-0.0 c.from_residual-in_err-sign.ensures.1)
    (passed_sign_err c.args.before c.args.self.now c.limited.new.self c.sign.new.self named.0 c.in_err-sign.field-0.0 room (named.1, named.2) c.in_err-sign.ensures.none)

pub returns-in_err-value-clause-read : goal.returns-in_err-value-clause-read
returns-in_err-value-clause-read g c =
    let named = c.in_ok-name.ensures.read in
    let room = lt-ltb c.args.before MAX_ARGUMENTS c.in_ok-name.ensures.room in
    rw (handed _ c.in_err-value.field-0.0 c.from_residual-in_err-value.ensures.1)
    (passed_value_err c.args.before c.args.self.now c.limited.new.self c.sign.new.self named.0 c.in_ok-sign.ensures.read.0 c.in_err-value.field-0.0 room (named.1, named.2) (c.in_ok-sign.ensures.read.1, c.in_ok-sign.ensures.read.2) c.in_err-value.ensures)

pub returns-clause-read : goal.returns-clause-read
returns-clause-read g c =
    let named = c.in_ok-name.ensures.read in
    let room = lt-ltb c.args.before MAX_ARGUMENTS c.in_ok-name.ensures.room in
    passed_ok c.args.before c.args.self.now c.limited.new.self c.sign.new.self c.arg.new.self named.0 c.in_ok-sign.ensures.read.0 c.in_ok-name.name _ room (named.1, named.2) (c.in_ok-sign.ensures.read.1, c.in_ok-sign.ensures.read.2) named.3 c.in_ok-value.ensures
