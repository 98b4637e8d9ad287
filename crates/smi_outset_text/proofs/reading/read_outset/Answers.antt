use Rattle.std.proofs.Common.{arith}
use Rattle.smi_outset_text.specs.Lines.{IsFirstBadLine, members_lines, lines_of_objects}
use Rattle.smi_outset_text.proofs.Beginning.{counts_fit}
use Rattle.smi_outset_text.proofs.reading.read_outset.Goals as goal

pub after_lines-requires : goal.after_lines-requires
after_lines-requires c = λ count e.
    let d = c.args.domain.now in
    let rest = c.in-Ok.objects.rest.now in
    let bad : IsFirstBadLine d (members_lines d) rest count = rw e at c.in-Err-read_members.ensures.fault in
    let fit = counts_fit d (lines_of_objects d) (members_lines d) c.args.text.now rest count c.in-Ok.ensures.lines bad in
    omega (arith, fit, c.in-Ok.ensures.count, c.length_of-bytes.ensures.is, c.length_of-bytes.ensures.few)

pub returns-clause-fault : goal.returns-clause-fault
returns-clause-fault c =
    let d = c.args.domain.now in
    c.after_lines.ensures d (lines_of_objects d) (members_lines d) c.args.text.now c.in-Ok.objects.rest.now c.in-Ok.ensures.count
    c.in-Ok.ensures.lines c.in-Err-read_members.ensures.fault
