-- The first entry that breaks a rule is the first that may not stand.
use Rattle.std.proofs.Common.{sym, subst}
use Rattle.smi_meaning.specs.Legal.{IsLegal}
use Rattle.smi_audit.proofs.OneMore.{broken_at, goes_on}
use Rattle.smi_audit.proofs.past.Past.of.Goals as goal

pub returns-in-Some-clause-none : goal.returns-in-Some-clause-none
returns-in-Some-clause-none c =
    let i = c.loop-i.invariant in
    broken_at _ _ c.args.entries.now c.loop-i.judge _ c.loop-i.i c.index-entries-i.result c.in-Ok-take.broken
    c.in-Some.rule c.loop-i-test.true c.index-entries-i.is i.format_is i.domain i.journal i.legal
    c.in-Ok-take.ensures c.in-Some.is

pub loop-i-preserved : goal.loop-i-preserved
loop-i-preserved c =
    let i = c.loop-i.invariant in
    let g = goes_on _ _ c.args.entries.now c.loop-i.judge _ c.loop-i.i c.index-entries-i.result c.in-Ok-take.broken
    c.loop-i-test.true c.index-entries-i.is i.format_is i.domain i.journal i.legal c.in-Ok-take.ensures
    c.in-None.is in
    record { kept = g.kept; format_is = g.format_is; domain = g.domain; journal = g.journal; legal = g.legal }

pub take-requires-clause-legal : goal.take-requires-clause-legal
take-requires-clause-legal c =
    let i = c.loop-i.invariant in
    let j = c.loop-i.judge in
    subst (λ x. IsLegal x j.books.domain j.books.journal) (sym i.format_is)
    (subst (λ x. IsLegal c.args.format x j.books.journal) (sym i.domain) i.legal)
