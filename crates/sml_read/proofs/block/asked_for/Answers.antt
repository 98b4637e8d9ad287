use Rattle.sml_tree.specs.Content.{cond_content}
use Rattle.sml_read.proofs.Choices.{asked_for_closed, branch_word_err}
use Rattle.sml_read_parts.proofs.Stopped.{handed}
use Rattle.sml_read.proofs.block.asked_for.Goals as goal

pub returns : goal.returns
returns g c =
    let sign = c.in_ok-sign.ensures.read in
    asked_for_closed cond_content _ c.args.reader.now c.sign.new.self c.condition-cond.new.reader c.ended.new.self sign.0 c.condition-cond.result c.ended.result
    (sign.1, sign.2) c.condition-cond.ensures.read c.ended.ensures

pub returns-in_err-sign : goal.returns-in_err-sign
returns-in_err-sign g c =
    rw (handed _ c.in_err-sign.field-0.0 c.from_residual.ensures.1)
    (λ depth. branch_word_err depth c.args.reader.now c.sign.new.self c.in_err-sign.field-0.0 c.in_err-sign.ensures.none)
