use Rattle.std.proofs.Common.{◌∙◌, ap, map, Bor, ◌||◌}
use Rattle.std.specs.List.{list_any}
use Rattle.sml_tree.specs.Content.{action_param_content, class_param_content, class_content}
use Rattle.sml_check_faults.specs.Lookup.{class_param_named, is_action_param}
use Rattle.sml_check_faults.proofs.Loops.{is_there, found_any}
use Rattle.sml_check_faults.proofs.repeated.names_param.Goals as goal

pub returns-then-is_some : goal.returns-then-is_some
returns-then-is_some g c =
    c.if-is_some.true ∙ ap (λ b. b || list_any (is_action_param c.args.name.now) (map action_param_content c.args.params.now))
    (c.if-is_some.ensures ∙ is_there (λ (p : Bor _). class_param_content p.now) c.class_param.result (class_param_named (class_content c.args.class.now) c.args.name.now) c.class_param.ensures)

pub returns-else-is_some : goal.returns-else-is_some
returns-else-is_some g c =
    let names = map action_param_content c.args.params.now in
    let none = c.if-is_some.ensures ∙ is_there (λ (p : Bor _). class_param_content p.now) c.class_param.result (class_param_named (class_content c.args.class.now) c.args.name.now) c.class_param.ensures in
    c.is_some-else-is_some.ensures ∙ found_any (λ (p : Bor _). action_param_content p.now) c.action_param_in.result (is_action_param c.args.name.now) names c.action_param_in.ensures
    ∙ ap (λ b. b || list_any (is_action_param c.args.name.now) names) none
