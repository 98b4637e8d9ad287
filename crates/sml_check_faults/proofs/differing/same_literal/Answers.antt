use Rattle.sml_tree.specs.Content.{literal_content}
use Rattle.sml_check_faults.proofs.SameParams.{same_literal_by}
use Rattle.sml_check_faults.proofs.differing.same_literal.Goals as goal

pub returns : goal.returns
returns g c = same_literal_by c.same.result (literal_content c.args.value.now) (literal_content c.args.other.now) c.same.ensures
