use Rattle.std.proofs.Common.{◌∷◌, ◌++◌, [], map, ap, refl, subst, ◌∙◌, ◌≤◌, length}
use Rattle.sml_tree.specs.Content.{class_param_content}
use Rattle.sml_check_build.specs.Placed.{ParamWritten}
use Rattle.sml_check_build.specs.Rows as rows
use Rattle.sml_check_build.proofs.Gathered.{gathered, gathered_all}
use Rattle.sml_check_build.proofs.Elements.{all_of}
use Rattle.sml_check_build.proofs.params.class_params.Goals as goal

pub class_param-requires : goal.class_param-requires
class_param-requires g c = all_of ParamWritten class_param_content c.args.params.now.items c.deref-param-items.result.now c.loop-param.param-index c.param-item.result c.requires c.deref-param-items.ensures.value c.loop-param-test.true c.param-item.is

pub loop-param-preserved : goal.loop-param-preserved
loop-param-preserved g c =
    let was = c.loop-param.made.items in
    gathered (λ ys. map rows.class_param_row (map class_param_content ys)) (rows.class_param_row (class_param_content c.param-item.result) ∷ []) was c.push.new.self.items c.args.params.now.items c.deref-param-items.result.now c.loop-param.param-index _ c.param-item.result
    c.loop-param.invariant c.deref-param-items.ensures.value c.loop-param-test.true c.param-item.is (λ zs. refl) (c.in_ok-push.ensures.items ∙ ap (λ p. was ++ p ∷ []) c.in_ok-class_param.ensures)

pub returns : goal.returns
returns g c =
    gathered_all (λ ys. map rows.class_param_row (map class_param_content ys)) c.loop-param.made.items c.args.params.now.items c.loop-param.param-index _ c.loop-param.invariant
    (subst (λ ys. length ys ≤ c.loop-param.param-index) c.deref-param-items.ensures.value c.loop-param-test.false) refl
