use Rattle.std.proofs.Common.{◌∷◌, ◌++◌, [], map, ap, refl, subst, ◌∙◌, ◌≤◌, length}
use Rattle.std.proofs.lemmas.List.{map-append}
use Rattle.sml_domain.specs.Trees as trees
use Rattle.sml_check_build.specs.Programs as says
use Rattle.sml_check_build.proofs.Gathered.{gathered, gathered_all}
use Rattle.sml_tree.specs.Content.{passed_content, class_content, action_content}
use Rattle.sml_check_build.specs.Placed.{PassedPlaced}
use Rattle.sml_check_build.proofs.Elements.{all_of}
use Rattle.sml_check_build.proofs.values.arguments.Goals as goal

pub argument-requires : goal.argument-requires
argument-requires g c =
    all_of (PassedPlaced (class_content c.args.class.now) (action_content c.args.action.now)) passed_content c.args.args.now.items c.deref-passed-items.result.now c.loop-passed.passed-index c.passed-item.result
    c.requires c.deref-passed-items.ensures.value c.loop-passed-test.true c.passed-item.is

pub loop-passed-preserved : goal.loop-passed-preserved
loop-passed-preserved g c =
    let said = says.argument_numbered (class_content c.args.class.now) (action_content c.args.action.now) in
    let was = c.loop-passed.rows.items in
    let made = map trees.argument was in
    gathered (λ ys. map said (map passed_content ys)) (said (passed_content c.passed-item.result) ∷ []) made (map trees.argument c.push.new.self.items) c.args.args.now.items c.deref-passed-items.result.now c.loop-passed.passed-index _ c.passed-item.result
    c.loop-passed.invariant c.deref-passed-items.ensures.value c.loop-passed-test.true c.passed-item.is (λ zs. refl)
    (ap (map trees.argument) c.in_ok-push.ensures.items ∙ map-append trees.argument was (c.in_ok-argument.field-0 ∷ []) ∙ ap (λ y. made ++ y ∷ []) c.in_ok-argument.ensures)

pub returns : goal.returns
returns g c =
    let said = says.argument_numbered (class_content c.args.class.now) (action_content c.args.action.now) in
    gathered_all (λ ys. map said (map passed_content ys)) (map trees.argument c.loop-passed.rows.items) c.args.args.now.items c.loop-passed.passed-index _ c.loop-passed.invariant
    (subst (λ ys. length ys ≤ c.loop-passed.passed-index) c.deref-passed-items.ensures.value c.loop-passed-test.false) refl
