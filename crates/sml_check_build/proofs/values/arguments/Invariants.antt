use Rattle.std.proofs.Common.{map}
use Rattle.sml_tree.specs.Content.{passed_content, class_content, action_content}
use Rattle.sml_domain.specs.Trees as trees
use Rattle.sml_check_build.specs.Programs as says
use Rattle.sml_check_build.proofs.Gathered.{Gathers}
use Rattle.sml_check_build.proofs.values.arguments.Given as goal

abbrev pub invariant-loop-passed : goal.invariant-loop-passed
invariant-loop-passed g l =
    let says_of = says.argument_numbered (class_content l.class) (action_content l.action) in
    Gathers (λ ys. map says_of (map passed_content ys)) (map trees.argument l.rows.items) l.args.items l.passed-index (map says_of (map passed_content l.args.items))
