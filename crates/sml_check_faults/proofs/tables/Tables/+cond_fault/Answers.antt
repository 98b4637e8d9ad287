use Rattle.std.proofs.Common.{◌≡◌, ◌∙◌, ◌++◌, inl, inr, sym, ap, flat_map}
use Rattle.sml_tree.specs.Content.{file_content, class_content, action_content, cond_content}
use Rattle.sml_check_faults.specs.Lookup.{first_item, of_set}
use Rattle.sml_check_faults.specs.Sites.{tests, cond_sites}
use Rattle.sml_check_faults.specs.Kinds.{site_faults, test_faults}
use Rattle.sml_check_faults.specs.Tables.{first_or_else}
use Rattle.sml_check_faults.proofs.Rests.{first_in-append}
use Rattle.sml_check_faults.proofs.BlockRests.{first_first, one_site}
use Rattle.sml_check_faults.proofs.tables.Tables.+cond_fault.Goals as goal

pub returns-in-Not : goal.returns-in-Not
returns-in-Not g t c =
    let f = site_faults c.args.kind (file_content c.args.self.now.file.now) (class_content c.args.class.now) (action_content c.args.action.now) in
    c.cond_fault.ensures ∙ ap (λ d. first_item (flat_map f (cond_sites (cond_content d)))) c.deref.ensures ∙ sym (ap (λ d. first_item (flat_map f (cond_sites (cond_content d)))) c.in-Not.is)

pub returns-in-Some : goal.returns-in-Some
returns-in-Some g t c =
    let f = site_faults c.args.kind (file_content c.args.self.now.file.now) (class_content c.args.class.now) (action_content c.args.action.now) in
    let xs = cond_sites (cond_content c.in-And.a.value) in
    let ys = cond_sites (cond_content c.in-And.b.value) in
    let parts : cond_sites (cond_content c.args.cond.now) ≡ xs ++ ys =
    elim c.in-And.is [
      | inl e ↦ ap (λ d. cond_sites (cond_content d)) e
      | inr e ↦ ap (λ d. cond_sites (cond_content d)) e
    ] in
    first_first f xs ys c.in-Some.name (c.in-Some.ensures ∙ ap (λ d. first_item (flat_map f (cond_sites (cond_content d)))) c.deref-in-And.ensures) ∙ sym (ap (λ ss. first_item (flat_map f ss)) parts)

pub returns-in-None : goal.returns-in-None
returns-in-None g t c =
    let f = site_faults c.args.kind (file_content c.args.self.now.file.now) (class_content c.args.class.now) (action_content c.args.action.now) in
    let xs = cond_sites (cond_content c.in-And.a.value) in
    let ys = cond_sites (cond_content c.in-And.b.value) in
    let parts : cond_sites (cond_content c.args.cond.now) ≡ xs ++ ys =
    elim c.in-And.is [
      | inl e ↦ ap (λ d. cond_sites (cond_content d)) e
      | inr e ↦ ap (λ d. cond_sites (cond_content d)) e
    ] in
    c.cond_fault-in-None.ensures ∙ ap (λ d. first_item (flat_map f (cond_sites (cond_content d)))) c.deref-in-None.ensures
    ∙ ap (λ o. first_or_else o (first_item (flat_map f ys))) (c.in-None.ensures ∙ ap (λ d. first_item (flat_map f (cond_sites (cond_content d)))) c.deref-in-And.ensures)
    ∙ sym (ap (λ ss. first_item (flat_map f ss)) parts ∙ first_in-append f xs ys)

pub returns-in-Test : goal.returns-in-Test
returns-in-Test g t c =
    let file = file_content c.args.self.now.file.now in
    let k = class_content c.args.class.now in
    let f = site_faults c.args.kind file k (action_content c.args.action.now) in
    c.test_fault.ensures ∙ ap (λ s. first_item (test_faults c.args.kind file k s c.in-Test.name c.deref-in-Test.result.now)) c.of_set.ensures
    ∙ ap (λ ss. first_item (test_faults c.args.kind file k (of_set c.in-Test.scope) c.in-Test.name ss)) c.deref-in-Test.ensures.value
    ∙ sym (one_site f (tests (record { scope = c.in-Test.scope; name = c.in-Test.name; negated = c.in-Test.negated; states = c.in-Test.states.items })))
    ∙ sym (ap (λ d. first_item (flat_map f (cond_sites (cond_content d)))) c.in-Test.is)
