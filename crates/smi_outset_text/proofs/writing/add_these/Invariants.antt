use Rattle.std.proofs.Common.{◌≡◌, ◌++◌, flat_map, take}
use Rattle.smi_outset_text.specs.OutsetText.{outset_param_line}
use Rattle.smi_outset_text.proofs.writing.add_these.Given as goal

-- the lines of those before were added
abbrev pub invariant-loop-param : goal.invariant-loop-param
invariant-loop-param l =
    l.text.items ≡ l.initial.text.items ++ flat_map (outset_param_line l.domain l.o) (take l.param-index l.params)
