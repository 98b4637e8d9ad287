use Rattle.std.proofs.Common.{◌≡◌, ◌++◌, ◌<◌, ℕ, All, get_or, length, map}
use Rattle.std.specs.List.{range_with_len}
use Rattle.sml_domain.specs.Domain.{Param}
use Rattle.sml_domain.specs.Lookups.{class_params_at}
use Rattle.sml_outset.specs.Suits.{ParamSuits}
use Rattle.smi_outset_text.specs.OutsetText.{outset_param_lines}
use Rattle.smi_outset_text.specs.Lines.{BeginsWithLines, ParamOf}
use Rattle.smi_outset_text.specs.Reading.{IsHeldParam}
use Rattle.smi_outset_text.proofs.params.read_params_of.Given as goal

-- the parameters before were read
abbrev pub invariant-loop-place : goal.invariant-loop-place
invariant-loop-place l = record {
  count : length l.found.items ≡ l.place;
  each : (k : ℕ) (p x : Param) → k < l.place → ParamSuits (get_or (class_params_at l.domain l.o) k p) (get_or l.found.items k x);
  held : All IsHeldParam l.found.items;
  whole : l.text ≡ outset_param_lines l.domain l.o l.found.items ++ l.rest;
  lines : BeginsWithLines l.domain (map (ParamOf l.o) (range_with_len 0 l.place)) l.text l.rest;
}
