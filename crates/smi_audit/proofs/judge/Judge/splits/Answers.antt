-- An entry splits a send that is begun where it is not its next post.
use Rattle.std.proofs.Common.{subst}
use Rattle.smi_meaning.specs.Legal.{IsLegal}
use Rattle.smi_audit.proofs.Unsplit.{nobody, tested}
use Rattle.smi_audit.proofs.judge.Judge.splits.Goals as goal

pub begun-requires-clause-legal : goal.begun-requires-clause-legal
begun-requires-clause-legal c =
    subst (λ x. IsLegal x c.args.self.now.books.domain c.args.self.now.books.journal) c.in-Two.is c.requires.legal

pub returns-in-Some : goal.returns-in-Some
returns-in-Some c =
    let j = c.args.self.now in
    tested j.format j.books.domain j.books.journal c.args.e.now c.in-Some.begun.object c.in-Some.begun.post.now
    c.is.result c.in-Two.is c.requires.legal c.in-Some.ensures.some c.is.ensures

pub returns-in-None : goal.returns-in-None
returns-in-None c =
    let j = c.args.self.now in
    nobody j.format j.books.domain j.books.journal c.args.e.now c.in-Two.is c.in-None.ensures.none
