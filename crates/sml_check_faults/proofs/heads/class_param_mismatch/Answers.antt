use Rattle.std.proofs.Common.{◌∙◌, ap, not}
use Rattle.sml_tree.specs.Content.{class_param_content}
use Rattle.sml_check_faults.specs.Heads.{class_param_mismatch}
use Rattle.sml_check_faults.proofs.Loops.{first_one, first_more, named_so, named_not}
use Rattle.sml_check_faults.proofs.Rests.{rest_end}
use Rattle.sml_check_faults.proofs.heads.class_param_mismatch.Goals as goal
use Rattle.sml_tree.specs.Kinds.{same_kind}

pub returns-then-not-same_kind : goal.returns-then-not-same_kind
returns-then-not-same_kind g c =
    let x = c.param-item.result in
    first_one class_param_mismatch class_param_content c.args.params.now c.loop-param.param-index _ x c.loop-param.invariant c.loop-param-test.true c.param-item.is x.name
    (named_so _ x.name (ap not c.if-not-same_kind.ensures ∙ ap (λ k. not (same_kind x.kind k)) c.kind_of.ensures))

pub loop-param-preserved : goal.loop-param-preserved
loop-param-preserved g c =
    let x = c.param-item.result in
    first_more class_param_mismatch class_param_content c.args.params.now c.loop-param.param-index _ x c.loop-param.invariant c.loop-param-test.true c.param-item.is
    (named_not _ x.name (ap not c.if-not-same_kind.ensures ∙ ap (λ k. not (same_kind x.kind k)) c.kind_of.ensures))

pub returns : goal.returns
returns g c = rest_end c.loop-param.invariant c.loop-param-test.false
