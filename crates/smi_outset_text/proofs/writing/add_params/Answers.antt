use Rattle.std.proofs.Common.{ap}
use Rattle.smi_outset_text.specs.OutsetText.{stand_param_lines}
use Rattle.smi_outset_text.proofs.Numbered.{added_more}
use Rattle.smi_outset_text.proofs.writing.add_params.Goals as goal

pub loop-o-preserved : goal.loop-o-preserved
loop-o-preserved c =
    let f = stand_param_lines c.args.domain.now in
    let x = c.index-stands-o.result in
    added_more f c.args.stands.now c.loop-o.o x c.args.text.now.items c.loop-o.text.items c.add_params_of.new.text.items (f c.new.result x)
    c.in_ok-add_params_of.ensures c.loop-o.invariant (ap (λ k. f k x) c.new.ensures) c.loop-o-test.true c.index-stands-o.is
