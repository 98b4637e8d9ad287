use Rattle.std.proofs.lemmas.Bool.{lt-ltb, le-ltb}
use Rattle.sml_read_parts.proofs.Heads.{head_read, head_too_many, head_open, head_unnamed}
use Rattle.sml_read_parts.proofs.Stopped.{handed}
use Rattle.sml_read_parts.proofs.reader.Reader.head.Goals as goal

pub returns-then-before-limit-clause-read : goal.returns-then-before-limit-clause-read
returns-then-before-limit-clause-read c =
    rw c.at.ensures (head_too_many c.args.before c.args.limit c.args.self.now c.take-held.new.self c.take-held.result c.take-held.ensures (le-ltb c.args.before c.args.limit c.if-before-limit.true))

pub returns-in_err-sign-clause-read : goal.returns-in_err-sign-clause-read
returns-in_err-sign-clause-read c =
    rw (handed _ c.in_err-sign.field-0.0 c.from_residual.ensures.1)
    (head_open c.args.before c.args.limit c.args.self.now c.take-held.new.self c.sign.new.self c.take-held.result c.in_err-sign.field-0.0 c.take-held.ensures
    (lt-ltb c.args.before c.args.limit c.if-before-limit.false) c.in_err-sign.ensures.none)

pub returns-in_err-name-clause-read : goal.returns-in_err-name-clause-read
returns-in_err-name-clause-read c =
    rw (handed _ c.in_err-name.field-0.0 c.from_residual-in_err-name.ensures.1)
    (head_unnamed c.args.before c.args.limit c.args.self.now c.take-held.new.self c.sign.new.self c.named.new.self c.take-held.result c.in_ok-sign.ensures.read.0 c.in_err-name.field-0.0 c.take-held.ensures
    (lt-ltb c.args.before c.args.limit c.if-before-limit.false) (c.in_ok-sign.ensures.read.1, c.in_ok-sign.ensures.read.2) c.in_err-name.ensures.none)

pub returns-clause-read : goal.returns-clause-read
returns-clause-read c =
    head_read c.args.before c.args.limit c.args.self.now c.take-held.new.self c.sign.new.self c.named.new.self c.take-held.result c.in_ok-sign.ensures.read.0 c.in_ok-name.ensures.read.0 c.in_ok-name.name
    (record {
      first = c.take-held.ensures;
      room = lt-ltb c.args.before c.args.limit c.if-before-limit.false;
      colon = (c.in_ok-sign.ensures.read.1, c.in_ok-sign.ensures.read.2);
      named = (c.in_ok-name.ensures.read.1, c.in_ok-name.ensures.read.2);
      is = c.in_ok-name.ensures.read.3;
    })
