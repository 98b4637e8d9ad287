-- A row more, or none.
use Rattle.std.proofs.Common.{◌≡◌, length, get_or, ap, sym, ◌∙◌, subst}
use Rattle.std.proofs.lemmas.List.{get_or_default}
use Rattle.sml_domain.specs.Domain.{State as Stated}
use Rattle.smi_reach.specs.Found.{Finds, IsIn, NoneIsIn}
use Rattle.smi_reach.proofs.Spread.{one_more_row}
use Rattle.smi_reach.proofs.states.spread.Goals as goal

pub returns-in_default-clause-none : goal.returns-in_default-clause-none
returns-in_default-clause-none c =
    let reached = c.args.reached.now.items in
    let left = c.args.left.now.items in
    let rows = c.rows-rows.result.now in
    let rows_is : rows ≡ c.args.class.now.states = c.rows-rows.ensures ∙ ap (λ k. k.states) c.class.view_is in
    λ q.
    subst (λ r. NoneIsIn r reached left (length left)) rows_is
    (subst (λ r. NoneIsIn rows r left (length left)) c.deref-2.ensures.value
    (subst (λ l. NoneIsIn rows c.deref-2.result.now l (length l)) c.deref.ensures.value c.in_default.ensures.none))

pub returns-clause-finds : goal.returns-clause-finds
returns-clause-finds c =
    let d = c.args.domain.now in
    let k = c.args.class.now in
    let reached = c.args.reached.now.items in
    let left = c.args.left.now.items in
    let rows = c.rows-rows.result.now in
    let j = c.in-Some.j in
    let x : Stated = c.index-rows-i.result in
    let rows_is : rows ≡ k.states = c.rows-rows.ensures ∙ ap (λ k. k.states) c.class.view_is in
    let there : IsIn k.states reached left j =
    subst (λ r. IsIn r reached left j) rows_is
    (subst (λ r. IsIn rows r left j) c.deref-2.ensures.value
    (subst (λ l. IsIn rows c.deref-2.result.now l j) c.deref.ensures.value c.in-Some.ensures.some)) in
    let at : c.remove-i.result ≡ get_or left j 0 = c.remove-i.ensures.value ∙ get_or_default left j c.remove-i.result 0 there.within in
    let is : x ≡ get_or k.states c.remove-i.result x = c.index-rows-i.is ∙ ap (λ r. get_or r c.remove-i.result x) rows_is in
    subst (Finds d k c.add_ends.new.list.items) (sym c.remove-i.ensures.items)
    (one_more_row d k reached left c.add_ends.new.list.items j c.remove-i.result x c.requires.finds there at is c.in_ok-add_ends.ensures)
