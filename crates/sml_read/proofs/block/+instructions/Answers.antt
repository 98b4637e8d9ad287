use Rattle.std.proofs.Common.{Err, [], ◌∷◌, ◌++◌, map, length, ap, refl, arith}
use Rattle.std.proofs.lemmas.List.{append-nil}
use Rattle.sml_read.proofs.Choices.{arms_closed, arms_word_err, arms_yes_err, branch_made, if_deep, if_front, else_left_out, else_block}
use Rattle.sml_read_parts.proofs.Found.{found_front}
use Rattle.sml_read_parts.proofs.Stopped.{handed}
use Rattle.sml_read.specs.Arms.{arms_content}
use Rattle.sml_tree.specs.Content.{instr_content}
use Rattle.sml_tree.specs.Form.{Block}
use Rattle.sml_read_parts.proofs.Lists.{read_more, read_end, read_err, pushed}
use Rattle.sml_read.proofs.block.+instructions.Goals as goal

-- one more was read
pub block-more-preserved : goal.block-more-preserved
block-more-preserved g t c =
    let next = rw c.in-Some.is at c.in_ok-instr.ensures in
    let part = Block c.args.depth in (
      omega (arith, next.0, c.more.invariant.0),
      read_more part part part (λ v. map instr_content c.more.instrs.items ++ v) (λ v. instr_content c.in-Some.instr ∷ v) (λ v. map instr_content c.in_ok-instrs-2.instrs.items ++ v)
          c.args.reader.now c.more.reader c.instr.new.reader c.more.invariant.1 next.1
          (pushed instr_content c.more.instrs.items c.in_ok-instrs-2.instrs.items c.in-Some.instr c.in_ok-instrs-2.ensures.items),
    )

pub arms-returns : goal.arms-returns
arms-returns g t c =
    arms_closed arms_content _ _ c.args.depth c.args.reader.now c.sign.new.self c.block.new.reader c.otherwise-no.new.reader c.arms_ended.new.reader c.in_ok-sign.ensures.read.0 c.otherwise-no.result c.arms_ended.result _
    (λ z. refl) (c.in_ok-sign.ensures.read.1, c.in_ok-sign.ensures.read.2) c.in_ok-yes.ensures c.otherwise-no.ensures c.arms_ended.ensures

pub arms-returns-in_err-sign : goal.arms-returns-in_err-sign
arms-returns-in_err-sign g t c =
    rw (handed _ c.in_err-sign.field-0.0 c.from_residual.ensures.1)
    (arms_word_err c.args.depth c.args.reader.now c.sign.new.self c.in_err-sign.field-0.0 c.in_err-sign.ensures.none)

pub arms-returns-in_err-yes : goal.arms-returns-in_err-yes
arms-returns-in_err-yes g t c =
    let word = c.in_ok-sign.ensures.read in
    rw (handed _ c.in_err-yes.field-0.0 c.from_residual-in_err-yes.ensures.1)
    (arms_yes_err c.args.depth c.args.reader.now c.sign.new.self word.0 c.in_err-yes.field-0.0 (word.1, word.2) c.in_err-yes.ensures)

pub choice-returns : goal.choice-returns
choice-returns g t c =
    let word = c.in_ok-deeper.ensures in
    if_front instr_content c.args.depth c.chosen.result word.0 c.args.reader.now c.deeper.new.self c.arms-arms.new.reader word.1 c.requires.at_if word.2
    (branch_made arms_content instr_content c.args.depth c.deeper.new.self c.asked_for.new.reader c.arms-arms.new.reader _ c.arms-arms.result c.chosen.result
    c.in_ok-cond.ensures.0 (c.in_ok-cond.ensures.1 c.args.depth) c.arms-arms.ensures c.chosen.ensures)

pub choice-returns-in_err-deeper : goal.choice-returns-in_err-deeper
choice-returns-in_err-deeper g t c =
    let deep = c.in_err-deeper.ensures in
    rw (handed _ c.in_err-deeper.field-0.0 c.from_residual.ensures.1, deep.3) (if_deep c.args.depth deep.0 c.args.reader.now c.deeper.new.self deep.1 c.requires.at_if deep.2)

pub choice-returns-in_err-cond : goal.choice-returns-in_err-cond
choice-returns-in_err-cond g t c =
    let word = c.in_ok-deeper.ensures in
    let e = c.in_err-cond.field-0.0 in
    rw (handed _ e c.from_residual-in_err-cond.ensures.1)
    (if_front (instr_content {A = g.row.A.Denot}) c.args.depth (Err e) word.0 c.args.reader.now c.deeper.new.self c.asked_for.new.reader word.1 c.requires.at_if word.2 (c.in_err-cond.ensures c.args.depth))

pub otherwise-returns : goal.otherwise-returns
otherwise-returns g t c =
    let word = c.if-not-skip.ensures in
    else_block (λ b. map instr_content b.instrs.items) c.args.depth c.block.result word.0 c.args.reader.now c.skip.new.self c.block.new.reader word.1 word.2 c.block.ensures

pub otherwise-returns-then-not-skip : goal.otherwise-returns-then-not-skip
otherwise-returns-then-not-skip g t c = else_left_out c.args.depth c.empty_block.result c.args.reader.now c.skip.new.self c.if-not-skip.ensures.0 c.if-not-skip.ensures.1 c.empty_block.ensures

pub block-returns : goal.block-returns
block-returns g t c =
    let none = rw c.in_default.is at c.in_ok-instr.ensures in (
      omega (arith, ap length none.0, c.more.invariant.0),
      read_end (Block c.args.depth) (Block c.args.depth) (λ v. map instr_content c.more.instrs.items ++ v) [] (map instr_content c.more.instrs.items) c.args.reader.now c.more.reader c.instr.new.reader
          c.more.invariant.1 none.1 (append-nil (map instr_content c.more.instrs.items)),
    )

-- the next instruction is refused
pub block-returns-in_err-instr : goal.block-returns-in_err-instr
block-returns-in_err-instr g t c =
    rw (handed _ c.in_err-instr.field-0.0 c.from_residual-in_err-instr.ensures.1)
    (read_err (Block c.args.depth) (Block c.args.depth) (λ v. map instr_content c.more.instrs.items ++ v) c.args.reader.now c.more.reader c.in_err-instr.field-0.0 c.more.invariant.1 c.in_err-instr.ensures)

-- an `if` is there
pub instr-returns-then-stands : goal.instr-returns-then-stands
instr-returns-then-stands g t c = found_front (Block c.args.depth) (Block c.args.depth) (λ i v. instr_content i ∷ v) [] c.choice.result c.as_some.result c.args.reader.now c.choice.new.reader c.as_some.ensures c.choice.ensures
