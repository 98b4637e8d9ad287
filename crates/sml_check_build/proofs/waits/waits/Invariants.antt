use Rattle.std.proofs.Common.{map}
use Rattle.sml_tree.specs.Content.{waited_content}
use Rattle.sml_domain.specs.Trees as trees
use Rattle.sml_check_build.specs.Programs as says
use Rattle.sml_check_build.proofs.Gathered.{Gathers}
use Rattle.sml_check_build.proofs.waits.waits.Given as goal

abbrev pub invariant-loop-one : goal.invariant-loop-one
invariant-loop-one g l =
    let says_of = says.waited_asked l.names in
    Gathers (λ ys. map says_of (map waited_content ys)) (map trees.asked l.rows.items) l.waited.items l.one-index (map says_of (map waited_content l.waited.items))
