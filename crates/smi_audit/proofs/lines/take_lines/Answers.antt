use Rattle.std.proofs.Common.{sym, subst}
use Rattle.smi_meaning.specs.Legal.{IsLegal}
use Rattle.smi_audit.proofs.OneLine.{one_line}
use Rattle.smi_audit.proofs.lines.take_lines.Goals as goal

pub loop-rest-preserved : goal.loop-rest-preserved
loop-rest-preserved c =
    let i = c.loop-rest.invariant in
    let g = one_line _ _ c.args.bytes.now c.loop-rest.rest.now c.in-Some.more.now c.loop-rest.judge
    c.take_line.new.judge i.format_is i.domain i.texts i.split i.legal c.in-Some.ensures.follows in
    record {
      kept = g.kept;
      format_is = g.format_is;
      domain = g.domain;
      texts = g.texts;
      split = g.split;
      legal = g.legal;
    }

pub take_line-requires-clause-legal : goal.take_line-requires-clause-legal
take_line-requires-clause-legal c =
    let i = c.loop-rest.invariant in
    let j = c.loop-rest.judge in
    subst (λ x. IsLegal x j.books.domain j.books.journal) (sym i.format_is)
    (subst (λ x. IsLegal c.args.format x j.books.journal) (sym i.domain) i.legal)
