use Rattle.std.proofs.Common.{◌≤◌, ◌+◌, ◌-◌, ◌*◌, length}
use Rattle.sml_tree.specs.Form.{Conj, MoreAnd, Cond, MoreOr}
use Rattle.sml_read_parts.specs.Reads.{LeadsOn}
use Rattle.sml_tree.specs.Content.{cond_content}
use Rattle.sml_read.proofs.condition.+conditions.Given as goal
use Rattle.sml_tree.specs.declared.limits.TheConstants.{MAX_OPEN, MAX_TESTS}

abbrev pub decreases-condition : goal.decreases-condition
decreases-condition g l = 4 * (MAX_OPEN - l.depth) + 3

abbrev pub decreases-conjunction : goal.decreases-conjunction
decreases-conjunction g l = 4 * (MAX_OPEN - l.depth) + 2

abbrev pub decreases-operand : goal.decreases-operand
decreases-operand g l = 4 * (MAX_OPEN - l.depth) + 1

abbrev pub decreases-negation : goal.decreases-negation
decreases-negation g l = 4 * (MAX_OPEN - l.depth)

abbrev pub decreases-bracket : goal.decreases-bracket
decreases-bracket g l = 4 * (MAX_OPEN - l.depth)

-- what was read is the left operand of what is left
abbrev pub invariant-conjunction-ands : goal.invariant-conjunction-ands
invariant-conjunction-ands g l =
    (length l.reader ≤ length l.fn.reader) × (l.tests ≤ MAX_TESTS) × LeadsOn (Conj l.depth l.fn.tests) (MoreAnd l.depth l.tests (cond_content l.left)) (λ v. v) l.fn.reader l.reader

abbrev pub decreases-conjunction-ands : goal.decreases-conjunction-ands
decreases-conjunction-ands g l = length l.reader

-- what was read is the left operand of what is left
abbrev pub invariant-condition-ors : goal.invariant-condition-ors
invariant-condition-ors g l =
    (length l.reader ≤ length l.fn.reader) × (l.tests ≤ MAX_TESTS) × LeadsOn (Cond l.depth l.fn.tests) (MoreOr l.depth l.tests (cond_content l.left)) (λ v. v) l.fn.reader l.reader

abbrev pub decreases-condition-ors : goal.decreases-condition-ors
decreases-condition-ors g l = length l.reader
