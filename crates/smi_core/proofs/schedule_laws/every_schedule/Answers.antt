use Rattle.smi_core.proofs.JoinedLines.{join, are_lines}
use Rattle.smi_core.proofs.OneOutput.{output_one}
use Rattle.smi_core.proofs.schedule_laws.every_schedule.Goals as goal

pub returns-clause-lines : goal.returns-clause-lines
returns-clause-lines c text = (join text, are_lines text)

pub returns-clause-output : goal.returns-clause-output
returns-clause-output c = output_one c.laws_of_tokens.ensures.some
