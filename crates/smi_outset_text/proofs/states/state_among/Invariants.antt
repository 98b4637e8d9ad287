use Rattle.smi_outset_text.specs.Reading.{NoStateOf}
use Rattle.smi_outset_text.proofs.states.state_among.Given as goal

-- the line of none of those before is in front
abbrev pub invariant-loop-row : goal.invariant-loop-row
invariant-loop-row l = NoStateOf l.domain l.o l.text l.rows l.row-index
