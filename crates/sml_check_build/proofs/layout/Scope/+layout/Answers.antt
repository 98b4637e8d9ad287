-- One instruction more, and the block that they make.
use Rattle.std.proofs.Common.{◌≡◌, ◌∙◌, ◌+◌, ◌<◌, ◌≤◌, [], ◌∷◌, ◌++◌, length, map, ap, sym, refl, subst, get_or, arith, append_assoc, append-nil, length-append}
use Rattle.std.proofs.lemmas.List.{map-append}
use Rattle.std.proofs.lemmas.Result.{IfOk-weaker}
use Rattle.sml_tree.specs.Content.{class_content, action_content, instr_content, block_content, block_of}
use Rattle.sml_domain.specs.Trees.{instruction}
use Rattle.sml_check_build.specs.Layout.{held_in, instr_laid, instrs_laid, held_blocks, inner_blocks}
use Rattle.sml_tree.proofs.Sizes.{item_smaller}
use Rattle.sml_check_faults.proofs.Rests.{rest_none}
use Rattle.sml_check_build.proofs.Gathered.{moves_of}
use Rattle.sml_tree.proofs.Blocks.{instr_content-If}
use Rattle.sml_check_build.specs.Placed.{InstrPlaced}
use Rattle.sml_check_build.proofs.Said.{says_Do, says_Set, says_MoveTo, says_Wait, yes_smaller, no_smaller, placed_at, on_any, chosen}
use Rattle.sml_check_build.proofs.Layouts.{length-inner, more_instrs, more_inner}
use Rattle.sml_check_build.proofs.layout.Scope.+layout.Goals as goal

pub block-loop-instr-init : goal.block-loop-instr-init
block-loop-instr-init g t c =
    let laid = instrs_laid c.args.self.now.names.now (class_content c.args.self.now.class.now) (action_content c.args.self.now.action.now) (length c.args.blocks.now) (block_content c.args.block.now) in
    record {
      instrs = record { is = ap (λ is. map instruction is ++ laid) c.new-instrs.ensures.items };
      blocks = record { is = refl };
    }

pub block-instr-requires : goal.block-instr-requires
block-instr-requires g t c κs within =
    let k = c.loop-instr.instr-index in
    let x = c.instr-item.result in (
      omega (arith, item_smaller c.args.block.now _ c.loop-instr.instr-index c.instr-item.result c.deref-instr-items.ensures.value c.loop-instr-test.true c.instr-item.is, c.decreases),
      (
        within,
        placed_at c.args.self.now.names.now (class_content c.args.self.now.class.now) (action_content c.args.self.now.action.now) instr_content c.args.block.now.instrs.items k x c.requires
            (subst (λ xs. k < length xs) c.deref-instr-items.ensures.value c.loop-instr-test.true) (subst (λ xs. x ≡ get_or xs k x) c.deref-instr-items.ensures.value c.instr-item.is),
      ),
    )

pub block-loop-instr-preserved : goal.block-loop-instr-preserved
block-loop-instr-preserved g t c =
    let n = c.args.self.now.names.now in
    let k = class_content c.args.self.now.class.now in
    let a = action_content c.args.self.now.action.now in
    let was = c.loop-instr.blocks in
    let now = c.instr.new.blocks in
    let fs = c.loop-instr.instrs.items in
    let gs = c.push.new.self.items in
    let f = c.in_ok-instr.field-0 in
    let x = c.instr-item.result in
    let xs = c.args.block.now.instrs.items in
    let adds : map instruction gs ≡ map instruction fs ++ instruction f ∷ [] = ap (map instruction) c.in_ok-push.ensures.items ∙ map-append instruction fs (f ∷ []) in
    record {
      instrs = moves_of (λ ys. map instruction fs ++ instrs_laid n k a (length was) (block_of (map instr_content ys))) (λ ys. map instruction gs ++ instrs_laid n k a (length now) (block_of (map instr_content ys)))
          xs c.deref-instr-items.result.now c.loop-instr.instr-index _ x c.loop-instr.invariant.instrs c.deref-instr-items.ensures.value c.loop-instr-test.true c.instr-item.is
          (λ zs. more_instrs n k a was now (instr_content x) (block_of (map instr_content zs)) c.in_ok-instr.ensures.blocks (map instruction fs) (map instruction gs) (instruction f) adds c.in_ok-instr.ensures.is);
      blocks = moves_of (λ ys. was ++ inner_blocks n k a (length was) (block_of (map instr_content ys))) (λ ys. now ++ inner_blocks n k a (length now) (block_of (map instr_content ys)))
          xs c.deref-instr-items.result.now c.loop-instr.instr-index _ x c.loop-instr.invariant.blocks c.deref-instr-items.ensures.value c.loop-instr-test.true c.instr-item.is
          (λ zs. more_inner n k a was now (instr_content x) (block_of (map instr_content zs)) c.in_ok-instr.ensures.blocks);
    }

pub block-returns-clause-is : goal.block-returns-clause-is
block-returns-clause-is g t c =
    let n = c.args.self.now.names.now in
    let k = class_content c.args.self.now.class.now in
    let a = action_content c.args.self.now.action.now in
    let was = c.args.blocks.now in
    let now = c.loop-instr.blocks in
    let b = block_content c.args.block.now in
    let xs = c.args.block.now.instrs.items in
    let over : length xs ≤ c.loop-instr.instr-index = subst (λ ys. length ys ≤ c.loop-instr.instr-index) c.deref-instr-items.ensures.value c.loop-instr-test.false in
    let whole : now ≡ was ++ inner_blocks n k a (length was) b =
    sym (append-nil now) ∙ rest_none (λ ys. now ++ inner_blocks n k a (length now) (block_of (map instr_content ys))) xs c.loop-instr.instr-index _ c.loop-instr.invariant.blocks over in
    let long : length now ≡ length was + held_in b = omega (arith, ap length whole, length-append was (inner_blocks n k a (length was) b), length-inner n k a (length was) b) in
    IfOk-weaker c.put.result _ _ (λ j e. e ∙ long) c.put.ensures.is

pub block-returns-clause-blocks : goal.block-returns-clause-blocks
block-returns-clause-blocks g t c =
    let n = c.args.self.now.names.now in
    let k = class_content c.args.self.now.class.now in
    let a = action_content c.args.self.now.action.now in
    let was = c.args.blocks.now in
    let now = c.loop-instr.blocks in
    let b = block_content c.args.block.now in
    let xs = c.args.block.now.instrs.items in
    let fs = map instruction c.loop-instr.instrs.items in
    let inner = inner_blocks n k a (length was) b in
    let over : length xs ≤ c.loop-instr.instr-index = subst (λ ys. length ys ≤ c.loop-instr.instr-index) c.deref-instr-items.ensures.value c.loop-instr-test.false in
    let whole : now ≡ was ++ inner =
    sym (append-nil now) ∙ rest_none (λ ys. now ++ inner_blocks n k a (length now) (block_of (map instr_content ys))) xs c.loop-instr.instr-index _ c.loop-instr.invariant.blocks over in
    let own : fs ≡ instrs_laid n k a (length was) b =
    sym (append-nil fs) ∙ rest_none (λ ys. fs ++ instrs_laid n k a (length now) (block_of (map instr_content ys))) xs c.loop-instr.instr-index _ c.loop-instr.invariant.instrs over in
    IfOk-weaker c.put.result _ _ (λ j e. e ∙ ap (λ bs. bs ++ fs ∷ []) whole ∙ append_assoc was inner (fs ∷ []) ∙ ap (λ own. was ++ (inner ++ own ∷ [])) own) c.put.ensures.added

-- a request
pub instr-request-requires : goal.instr-request-requires
instr-request-requires g t c = subst (InstrPlaced c.args.self.now.names.now (class_content c.args.self.now.class.now) (action_content c.args.self.now.action.now)) (ap instr_content c.in-Do.is ∙ says_Do _ _ _ _) c.requires

pub instr-returns-in-Do-clause-is : goal.instr-returns-in-Do-clause-is
instr-returns-in-Do-clause-is g t c =
    let laid = instr_laid c.args.self.now.names.now (class_content c.args.self.now.class.now) (action_content c.args.self.now.action.now) (length c.args.blocks.now) in
    IfOk-weaker c.request.result _ _ (λ i e. e ∙ sym (ap laid (ap instr_content c.in-Do.is ∙ says_Do _ _ _ _))) c.request.ensures

pub instr-returns-in-Do-clause-blocks : goal.instr-returns-in-Do-clause-blocks
instr-returns-in-Do-clause-blocks g t c =
    let was = c.args.blocks.now in
    let held = held_blocks c.args.self.now.names.now (class_content c.args.self.now.class.now) (action_content c.args.self.now.action.now) (length was) in
    on_any c.request.result (sym (ap (λ i. was ++ held i) (ap instr_content c.in-Do.is ∙ says_Do _ _ _ _) ∙ append-nil was))

-- an assignment
pub instr-assignment-requires-clause-param : goal.instr-assignment-requires-clause-param
instr-assignment-requires-clause-param g t c = (subst (InstrPlaced c.args.self.now.names.now (class_content c.args.self.now.class.now) (action_content c.args.self.now.action.now)) (ap instr_content c.in-Set.is ∙ says_Set _ _) c.requires).0

pub instr-assignment-requires-clause-value : goal.instr-assignment-requires-clause-value
instr-assignment-requires-clause-value g t c = (subst (InstrPlaced c.args.self.now.names.now (class_content c.args.self.now.class.now) (action_content c.args.self.now.action.now)) (ap instr_content c.in-Set.is ∙ says_Set _ _) c.requires).1

pub instr-returns-in-Set-clause-is : goal.instr-returns-in-Set-clause-is
instr-returns-in-Set-clause-is g t c =
    let laid = instr_laid c.args.self.now.names.now (class_content c.args.self.now.class.now) (action_content c.args.self.now.action.now) (length c.args.blocks.now) in
    IfOk-weaker c.assignment.result _ _ (λ i e. e ∙ sym (ap laid (ap instr_content c.in-Set.is ∙ says_Set _ _))) c.assignment.ensures

pub instr-returns-in-Set-clause-blocks : goal.instr-returns-in-Set-clause-blocks
instr-returns-in-Set-clause-blocks g t c =
    let was = c.args.blocks.now in
    let held = held_blocks c.args.self.now.names.now (class_content c.args.self.now.class.now) (action_content c.args.self.now.action.now) (length was) in
    on_any c.assignment.result (sym (ap (λ i. was ++ held i) (ap instr_content c.in-Set.is ∙ says_Set _ _) ∙ append-nil was))

-- the ends of an action
pub instr-state-requires : goal.instr-state-requires
instr-state-requires g t c = subst (InstrPlaced c.args.self.now.names.now (class_content c.args.self.now.class.now) (action_content c.args.self.now.action.now)) (ap instr_content c.in-MoveTo.is ∙ says_MoveTo _ _) c.requires

-- a `wait`
pub instr-waits-requires : goal.instr-waits-requires
instr-waits-requires g t c = subst (InstrPlaced c.args.self.now.names.now (class_content c.args.self.now.class.now) (action_content c.args.self.now.action.now)) (ap instr_content c.in-Wait.is ∙ says_Wait _) c.requires

-- a choice
pub instr-condition-requires : goal.instr-condition-requires
instr-condition-requires g t c = (subst (InstrPlaced c.args.self.now.names.now (class_content c.args.self.now.class.now) (action_content c.args.self.now.action.now)) (ap instr_content c.in-If.is ∙ instr_content-If _ _ _) c.requires).0

pub instr-returns-in_ok-cond-in-If-clause-is : goal.instr-returns-in_ok-cond-in-If-clause-is
instr-returns-in_ok-cond-in-If-clause-is g t c =
    let n = c.args.self.now.names.now in
    let k = class_content c.args.self.now.class.now in
    let a = action_content c.args.self.now.action.now in
    (chosen n k a c.args.blocks.now c.block.new.blocks c.block-in-If.new.blocks _ c.in_ok-yes-in-If.yes c.in_ok-no-in-If.no _ _ _ c.in_ok-cond-in-If.ensures
    c.in_ok-yes-in-If.ensures.blocks c.in_ok-no-in-If.ensures.blocks c.in_ok-yes-in-If.ensures.is c.in_ok-no-in-If.ensures.is (instr_content c.args.instr.now) (ap instr_content c.in-If.is ∙ instr_content-If _ _ _)).0

pub instr-returns-in_ok-cond-in-If-clause-blocks : goal.instr-returns-in_ok-cond-in-If-clause-blocks
instr-returns-in_ok-cond-in-If-clause-blocks g t c =
    let n = c.args.self.now.names.now in
    let k = class_content c.args.self.now.class.now in
    let a = action_content c.args.self.now.action.now in
    (chosen n k a c.args.blocks.now c.block.new.blocks c.block-in-If.new.blocks _ c.in_ok-yes-in-If.yes c.in_ok-no-in-If.no _ _ _ c.in_ok-cond-in-If.ensures
    c.in_ok-yes-in-If.ensures.blocks c.in_ok-no-in-If.ensures.blocks c.in_ok-yes-in-If.ensures.is c.in_ok-no-in-If.ensures.is (instr_content c.args.instr.now) (ap instr_content c.in-If.is ∙ instr_content-If _ _ _)).1

pub instr-block-requires : goal.instr-block-requires
instr-block-requires g t c κs within = (omega (arith, yes_smaller _ _ _ c.args.instr.now c.in-If.is, c.decreases), (within, (subst (InstrPlaced c.args.self.now.names.now (class_content c.args.self.now.class.now) (action_content c.args.self.now.action.now)) (ap instr_content c.in-If.is ∙ instr_content-If _ _ _) c.requires).1.0))

pub instr-block-requires-in-If : goal.instr-block-requires-in-If
instr-block-requires-in-If g t c κs within = (omega (arith, no_smaller _ _ _ c.args.instr.now c.in-If.is, c.decreases), (within, (subst (InstrPlaced c.args.self.now.names.now (class_content c.args.self.now.class.now) (action_content c.args.self.now.action.now)) (ap instr_content c.in-If.is ∙ instr_content-If _ _ _) c.requires).1.1))
