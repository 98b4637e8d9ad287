-- Nothing was judged.
use Rattle.std.proofs.Common.{◌≡◌, ◌∙◌, sym}
use Rattle.std.specs.Arc.{arc_value}
use Rattle.smi_audit.proofs.Adding.{first_kept}
use Rattle.smi_audit.proofs.judge.Judge.new.Goals as goal

pub returns-clause-kept : goal.returns-clause-kept
returns-clause-kept c =
    let arc : arc_value c.args.domain ≡ c.deref.result.now = sym c.deref.ensures in
    let domain : c.in_ok-books.books.domain ≡ c.deref.result.now =
    c.in_ok-books.ensures.domain ∙ c.in_ok-try_clone.ensures ∙ arc in
    first_kept c.laws_of_members.ensures.declared _ c.deref.result.now c.sets.result.now c.in_ok-tracks.ensures
    domain arc c.in_ok-books.ensures.journal c.in_ok-declared.ensures c.sets.ensures.is c.sets.ensures.are
