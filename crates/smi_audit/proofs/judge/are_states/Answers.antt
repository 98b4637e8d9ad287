-- The states so far are those of their objects.
use Rattle.std.proofs.Common.{◌≤◌, length, All, subst, refl}
use Rattle.std.proofs.lemmas.List.{take_all}
use Rattle.std.proofs.lemmas.List.Elements.{All-more}
use Rattle.smi_audit_rules.specs.Rules as rules
use Rattle.smi_audit.proofs.judge.are_states.Goals as goal

pub loop-reading-preserved : goal.loop-reading-preserved
loop-reading-preserved c =
    let r = c.reading-item.result in
    let is : rules.IsStateNow c.args.books.now.domain c.args.books.now.journal r = cc in
    All-more (rules.IsStateNow c.args.books.now.domain c.args.books.now.journal) c.args.readings.now
    c.loop-reading.reading-index r c.loop-reading-test.true c.loop-reading.invariant
    (subst (rules.IsStateNow c.args.books.now.domain c.args.books.now.journal) c.reading-item.is is)

pub returns : goal.returns
returns c =
    let le : length c.args.readings.now ≤ c.loop-reading.reading-index = c.loop-reading-test.false in
    let all = subst (All (rules.IsStateNow c.args.books.now.domain c.args.books.now.journal))
    (take_all c.loop-reading.reading-index c.args.readings.now le) c.loop-reading.invariant in
    ((λ t. all), (λ h. refl))
