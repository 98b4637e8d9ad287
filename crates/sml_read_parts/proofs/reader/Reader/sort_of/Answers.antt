use Rattle.std.proofs.lemmas.Bool.{lt-ltb, le-ltb}
use Rattle.sml_read_parts.proofs.Sorts.{sort_full, sort_read}
use Rattle.sml_read_parts.proofs.reader.Reader.sort_of.Goals as goal
use Rattle.sml_tree.specs.declared.limits.TheConstants.{MAX_PARAMETERS}

pub returns-then-before-ge-MAX_PARAMETERS-clause-read : goal.returns-then-before-ge-MAX_PARAMETERS-clause-read
returns-then-before-ge-MAX_PARAMETERS-clause-read c =
    let full = le-ltb c.args.before MAX_PARAMETERS c.if-before-ge-MAX_PARAMETERS.true in
    rw c.at.ensures (sort_full c.args.kind c.args.before c.take-held.result c.args.self.now c.take-held.new.self c.take-held.ensures c.requires.at_word full)

pub returns-clause-read : goal.returns-clause-read
returns-clause-read c =
    let room = lt-ltb c.args.before MAX_PARAMETERS c.if-before-ge-MAX_PARAMETERS.false in
    sort_read c.args.kind c.args.before c.take-held.result c.args.self.now c.take-held.new.self c.take-held.ensures c.requires.at_word room
