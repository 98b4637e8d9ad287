use Rattle.smi_outset_text.proofs.One.{good_is_not_bad, one_outset, outset_begins}
use Rattle.smi_outset_text.specs.Lines.{outset_lines}
use Rattle.smi_outset_text.specs.OutsetText.{outset_text}
use Rattle.std.proofs.Common.{◌++◌}
use Rattle.smi_outset_text.proofs.laws.laws_of_outset_texts.Goals as goal

pub returns : goal.returns
returns c = record {
  good = λ d x more count sound names suits held bad. good_is_not_bad d sound names (outset_lines d) (outset_text d x ++ more) more count (outset_begins d sound names x more suits held) bad;
  one = λ d x y more others sound names sx sy hx hy e. one_outset d sound names x y more others sx sy hx hy e;
}
