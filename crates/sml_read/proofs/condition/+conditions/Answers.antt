use Rattle.std.proofs.Common.{Ok, Err, refl}
use Rattle.sml_tree.specs.Content.{cond_content}
use Rattle.sml_tree.specs.Form.{Unit', Conj, MoreAnd, Cond, MoreOr}
use Rattle.sml_read.proofs.Chains.{not_deep, not_made, made_room, bracket_deep, bracket_closed, ended_room, conj_begun, conj_err, and_more, and_err, cond_begun, cond_err, or_more, or_err}
use Rattle.sml_read_parts.proofs.Lists.{read_err}
use Rattle.sml_read_parts.proofs.Made.{not_made_of}
use Rattle.sml_read_parts.proofs.Stopped.{handed}
use Rattle.sml_read.proofs.condition.+conditions.Goals as goal

pub negation-returns-in_err-deeper-clause-read : goal.negation-returns-in_err-deeper-clause-read
negation-returns-in_err-deeper-clause-read g t c =
    let deep = c.in_err-deeper.ensures in
    rw (handed _ c.in_err-deeper.field-0.0 c.from_residual.ensures.1, deep.3)
    (not_deep c.args.depth c.args.tests.now deep.0 c.args.reader.now c.deeper.new.self deep.1 c.requires.at_not deep.2)

pub negation-returns-clause-read : goal.negation-returns-clause-read
negation-returns-clause-read g t c =
    let word = c.in_ok-deeper.ensures in
    not_made c.args.depth c.args.tests.now c.operand-operand.new.tests c.operand-operand.result c.not_of.result word.0 c.args.reader.now c.deeper.new.self c.operand-operand.new.reader word.1 c.requires.at_not word.2 c.operand-operand.ensures.read c.not_of.ensures

pub negation-returns-clause-room : goal.negation-returns-clause-room
negation-returns-clause-room g t c = made_room _ c.operand-operand.result c.not_of.result _ c.not_of.ensures c.operand-operand.ensures.room

pub bracket-returns-in_err-deeper-clause-read : goal.bracket-returns-in_err-deeper-clause-read
bracket-returns-in_err-deeper-clause-read g t c =
    let deep = c.in_err-deeper.ensures in
    rw (handed _ c.in_err-deeper.field-0.0 c.from_residual.ensures.1, deep.3)
    (bracket_deep c.args.depth c.args.tests.now deep.0 c.args.reader.now c.deeper.new.self deep.1 c.requires.at_bracket deep.2)

pub bracket-returns-clause-read : goal.bracket-returns-clause-read
bracket-returns-clause-read g t c =
    let sign = c.in_ok-deeper.ensures in
    bracket_closed (λ x. record { formula = cond_content x; count = c.condition-inner.new.tests }) c.args.depth c.args.tests.now c.condition-inner.result c.ended.result sign.0 c.args.reader.now c.deeper.new.self c.condition-inner.new.reader c.ended.new.self
    sign.1 c.requires.at_bracket sign.2 c.condition-inner.ensures.read c.ended.ensures

pub bracket-returns-clause-room : goal.bracket-returns-clause-room
bracket-returns-clause-room g t c = ended_room _ _ c.condition-inner.result c.ended.result _ _ _ c.ended.ensures c.condition-inner.ensures.room

-- the first was read
pub conjunction-ands-init : goal.conjunction-ands-init
conjunction-ands-init g t c =
    let first = c.in_ok-left.ensures in
    (first.read.0, first.room, conj_begun c.args.depth c.args.tests.now c.operand.new.tests _ c.args.reader.now c.operand.new.reader first.read.1)

-- one more was read
pub conjunction-ands-preserved : goal.conjunction-ands-preserved
conjunction-ands-preserved g t c =
    let word = c.ands-test.ensures in
    and_more c.args.tests.now c.args.depth c.ands.tests c.operand-right.new.tests c.ands.left c.in_ok-left-2.left c.operand-right.result (Ok c.in_ok-left-2.left) word.0 c.args.reader.now c.ands.reader c.skip.new.self c.operand-right.new.reader
    refl c.in_ok-left-2.ensures c.ands.invariant.0 c.operand-right.ensures.room c.ands.invariant.2 word.1 word.2 c.operand-right.ensures.read

pub conjunction-returns-in_err-left-clause-read : goal.conjunction-returns-in_err-left-clause-read
conjunction-returns-in_err-left-clause-read g t c =
    rw (handed _ c.in_err-left.field-0.0 c.from_residual.ensures.1)
    (conj_err c.args.depth c.args.tests.now c.args.reader.now c.in_err-left.field-0.0 c.in_err-left.ensures.read)

-- another is refused
pub conjunction-returns-in_err-left-2-clause-read : goal.conjunction-returns-in_err-left-2-clause-read
conjunction-returns-in_err-left-2-clause-read g t c =
    let word = c.ands-test.ensures in
    let e = c.in_err-left-2.field-0.0 in
    rw (handed _ e c.from_residual-in_err-left-2.ensures.1)
    (read_err (Conj c.args.depth c.args.tests.now) (MoreAnd c.args.depth c.ands.tests (cond_content c.ands.left)) (λ v. v) c.args.reader.now c.ands.reader e c.ands.invariant.2
    (and_err c.args.depth c.ands.tests (cond_content c.ands.left) word.0 c.ands.reader c.skip.new.self e word.1 word.2
    (not_made_of _ (Unit' c.args.depth c.ands.tests) _ c.operand-right.result (Err e) e c.skip.new.self c.operand-right.new.reader refl c.in_err-left-2.ensures c.operand-right.ensures.read)))

-- the first was read
pub condition-ors-init : goal.condition-ors-init
condition-ors-init g t c =
    let first = c.in_ok-left.ensures in
    (first.read.0, first.room, cond_begun c.args.depth c.args.tests.now c.conjunction.new.tests _ c.args.reader.now c.conjunction.new.reader first.read.1)

-- one more was read
pub condition-ors-preserved : goal.condition-ors-preserved
condition-ors-preserved g t c =
    let word = c.ors-test.ensures in
    or_more c.args.tests.now c.args.depth c.ors.tests c.conjunction-right.new.tests c.ors.left c.in_ok-left-2.left c.conjunction-right.result (Ok c.in_ok-left-2.left) word.0 c.args.reader.now c.ors.reader c.skip.new.self c.conjunction-right.new.reader
    refl c.in_ok-left-2.ensures c.ors.invariant.0 c.conjunction-right.ensures.room c.ors.invariant.2 word.1 word.2 c.conjunction-right.ensures.read

pub condition-returns-in_err-left-clause-read : goal.condition-returns-in_err-left-clause-read
condition-returns-in_err-left-clause-read g t c =
    rw (handed _ c.in_err-left.field-0.0 c.from_residual.ensures.1)
    (cond_err c.args.depth c.args.tests.now c.args.reader.now c.in_err-left.field-0.0 c.in_err-left.ensures.read)

-- another is refused
pub condition-returns-in_err-left-2-clause-read : goal.condition-returns-in_err-left-2-clause-read
condition-returns-in_err-left-2-clause-read g t c =
    let word = c.ors-test.ensures in
    let e = c.in_err-left-2.field-0.0 in
    rw (handed _ e c.from_residual-in_err-left-2.ensures.1)
    (read_err (Cond c.args.depth c.args.tests.now) (MoreOr c.args.depth c.ors.tests (cond_content c.ors.left)) (λ v. v) c.args.reader.now c.ors.reader e c.ors.invariant.2
    (or_err c.args.depth c.ors.tests (cond_content c.ors.left) word.0 c.ors.reader c.skip.new.self e word.1 word.2
    (not_made_of _ (Conj c.args.depth c.ors.tests) _ c.conjunction-right.result (Err e) e c.skip.new.self c.conjunction-right.new.reader refl c.in_err-left-2.ensures c.conjunction-right.ensures.read)))
