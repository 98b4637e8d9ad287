use Rattle.std.proofs.Common.{◌∙◌, map, take, Bor}
use Rattle.sml_tree.specs.Content.{class_param_content}
use Rattle.sml_check_faults.specs.Lookup.{is_class_param}
use Rattle.sml_check_faults.specs.Repeats.{repeated_class_param}
use Rattle.sml_check_faults.proofs.Rests.{each_here, each_next, past_end}
use Rattle.sml_check_faults.proofs.Loops.{named_so, named_not, found_any}
use Rattle.sml_check_faults.proofs.repeated.repeated_class_param.Goals as goal

pub returns-then-is_some : goal.returns-then-is_some
returns-then-is_some g c =
    let x = class_param_content c.index-params-i.result in
    each_here repeated_class_param class_param_content c.args.params.now c.loop-i.i _ c.index-params-i.result c.loop-i.invariant c.loop-i-test.true c.index-params-i.is x.name
    (named_so _ x.name (c.if-is_some.ensures ∙ found_any (λ (p : Bor _). class_param_content p.now) c.class_param_in.result (is_class_param x.name) (map class_param_content (take c.loop-i.i c.args.params.now)) c.class_param_in.ensures))

pub loop-i-preserved : goal.loop-i-preserved
loop-i-preserved g c =
    let x = class_param_content c.index-params-i.result in
    each_next repeated_class_param class_param_content c.args.params.now c.loop-i.i _ c.index-params-i.result c.loop-i.invariant c.loop-i-test.true c.index-params-i.is
    (named_not _ x.name (c.if-is_some.ensures ∙ found_any (λ (p : Bor _). class_param_content p.now) c.class_param_in.result (is_class_param x.name) (map class_param_content (take c.loop-i.i c.args.params.now)) c.class_param_in.ensures))

pub returns : goal.returns
returns g c = past_end c.loop-i.invariant c.loop-i-test.false
