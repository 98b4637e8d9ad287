use Rattle.std.proofs.Common.{◌≡◌, ◌∙◌, ◌++◌, inl, inr, sym, ap}
use Rattle.std.specs.List.{list_any}
use Rattle.std.proofs.lemmas.List.Folds.{list_any-append}
use Rattle.sml_tree.specs.Content.{file_content, class_content, action_content, cond_content}
use Rattle.sml_check_faults.specs.Lookup.{of_set, objects_meant}
use Rattle.sml_check_faults.specs.Sites.{tests, cond_sites}
use Rattle.sml_check_faults.specs.InBlocks.{is_faulty_site, is_faulty_test}
use Rattle.sml_check_faults.proofs.InBlocks.{one_any, first_so, second_so}
use Rattle.sml_check_faults.proofs.tables.Tables.+is_faulty_cond.Goals as goal

pub returns-in-Not : goal.returns-in-Not
returns-in-Not g t c =
    let p = is_faulty_site (file_content c.args.self.now.file.now) (class_content c.args.class.now) (action_content c.args.action.now) in
    c.is_faulty_cond.ensures ∙ ap (λ d. list_any p (cond_sites (cond_content d))) c.deref.ensures ∙ sym (ap (λ d. list_any p (cond_sites (cond_content d))) c.in-Not.is)

pub returns-in-Test : goal.returns-in-Test
returns-in-Test g t c =
    let file = file_content c.args.self.now.file.now in
    let k = class_content c.args.class.now in
    let p = is_faulty_site file k (action_content c.args.action.now) in
    c.is_faulty_test.ensures ∙ ap (λ s. is_faulty_test file k s c.in-Test.name c.deref-in-Test.result.now (objects_meant file s c.in-Test.name)) c.of_set.ensures
    ∙ ap (λ ss. is_faulty_test file k (of_set c.in-Test.scope) c.in-Test.name ss (objects_meant file (of_set c.in-Test.scope) c.in-Test.name)) c.deref-in-Test.ensures.value
    ∙ sym (one_any p (tests (record { scope = c.in-Test.scope; name = c.in-Test.name; negated = c.in-Test.negated; states = c.in-Test.states.items })))
    ∙ sym (ap (λ d. list_any p (cond_sites (cond_content d))) c.in-Test.is)

pub returns-then-is_faulty_cond : goal.returns-then-is_faulty_cond
returns-then-is_faulty_cond g t c =
    let p = is_faulty_site (file_content c.args.self.now.file.now) (class_content c.args.class.now) (action_content c.args.action.now) in
    let xs = cond_sites (cond_content c.in-And.a.value) in
    let ys = cond_sites (cond_content c.in-And.b.value) in
    let parts : cond_sites (cond_content c.args.cond.now) ≡ xs ++ ys =
    elim c.in-And.is [
      | inl e ↦ ap (λ d. cond_sites (cond_content d)) e
      | inr e ↦ ap (λ d. cond_sites (cond_content d)) e
    ] in
    first_so _ (list_any p xs) (list_any p ys) c.if-is_faulty_cond.true (c.if-is_faulty_cond.ensures ∙ ap (λ d. list_any p (cond_sites (cond_content d))) c.deref-in-And.ensures)
    ∙ sym (ap (list_any p) parts ∙ list_any-append p xs ys)

pub returns-else-is_faulty_cond : goal.returns-else-is_faulty_cond
returns-else-is_faulty_cond g t c =
    let p = is_faulty_site (file_content c.args.self.now.file.now) (class_content c.args.class.now) (action_content c.args.action.now) in
    let xs = cond_sites (cond_content c.in-And.a.value) in
    let ys = cond_sites (cond_content c.in-And.b.value) in
    let parts : cond_sites (cond_content c.args.cond.now) ≡ xs ++ ys =
    elim c.in-And.is [
      | inl e ↦ ap (λ d. cond_sites (cond_content d)) e
      | inr e ↦ ap (λ d. cond_sites (cond_content d)) e
    ] in
    second_so _ (list_any p xs) (list_any p ys) (c.is_faulty_cond-else-is_faulty_cond.ensures ∙ ap (λ d. list_any p (cond_sites (cond_content d))) c.deref-else-is_faulty_cond.ensures)
    (c.if-is_faulty_cond.ensures ∙ ap (λ d. list_any p (cond_sites (cond_content d))) c.deref-in-And.ensures)
    ∙ sym (ap (list_any p) parts ∙ list_any-append p xs ys)
