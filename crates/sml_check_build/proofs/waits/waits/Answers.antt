use Rattle.std.proofs.Common.{◌∷◌, ◌++◌, [], map, ap, refl, subst, ◌∙◌, ◌≤◌, length}
use Rattle.std.proofs.lemmas.List.{map-append}
use Rattle.sml_domain.specs.Trees as trees
use Rattle.sml_check_build.specs.Programs as says
use Rattle.sml_check_build.proofs.Gathered.{gathered, gathered_all}
use Rattle.sml_tree.specs.Content.{waited_content}
use Rattle.sml_check_build.specs.Placed.{WaitedPlaced}
use Rattle.sml_check_build.proofs.Elements.{all_of}
use Rattle.sml_check_build.proofs.waits.waits.Goals as goal

pub asked-requires : goal.asked-requires
asked-requires g c =
    all_of (WaitedPlaced c.args.names.now) waited_content c.args.waited.now.items c.deref-one-items.result.now c.loop-one.one-index c.one-item.result
    c.requires c.deref-one-items.ensures.value c.loop-one-test.true c.one-item.is

pub loop-one-preserved : goal.loop-one-preserved
loop-one-preserved g c =
    let said = says.waited_asked c.args.names.now in
    let was = c.loop-one.rows.items in
    let made = map trees.asked was in
    gathered (λ ys. map said (map waited_content ys)) (said (waited_content c.one-item.result) ∷ []) made (map trees.asked c.push.new.self.items) c.args.waited.now.items c.deref-one-items.result.now c.loop-one.one-index _ c.one-item.result
    c.loop-one.invariant c.deref-one-items.ensures.value c.loop-one-test.true c.one-item.is (λ zs. refl)
    (ap (map trees.asked) c.in_ok-push.ensures.items ∙ map-append trees.asked was (c.asked.result ∷ []) ∙ ap (λ y. made ++ y ∷ []) c.asked.ensures)

pub returns : goal.returns
returns g c =
    let said = says.waited_asked c.args.names.now in
    gathered_all (λ ys. map said (map waited_content ys)) (map trees.asked c.loop-one.rows.items) c.args.waited.now.items c.loop-one.one-index _ c.loop-one.invariant
    (subst (λ ys. length ys ≤ c.loop-one.one-index) c.deref-one-items.ensures.value c.loop-one-test.false) refl
