use Rattle.std.proofs.Common.{◌≡◌, ◌∙◌, ◌++◌, ap, append_assoc, arith, length-append, sym}
use Rattle.smi_outset_text.specs.Lines.{IsFirstBadLine, param_lines, state_lines}
use Rattle.smi_outset_text.specs.OutsetText.{numbered, outset_state_line, stand_param_lines, stand_state_line}
use Rattle.smi_outset_text.specs.Reading.{state_of_stand}
use Rattle.smi_outset_text.proofs.Numbered.{numbered_map}
use Rattle.smi_outset_text.proofs.Beginning.{begins_both, counts_fit, lines_fit}
use Rattle.smi_outset_text.proofs.reading.read_objects.Goals as goal

pub overflow_add-result : goal.overflow_add-result
overflow_add-result c =
    let d = c.args.domain.now in
    let begins = begins_both d (state_lines d) (param_lines d) c.args.text.now c.in-Ok.states.rest.now c.in-Ok-read_stands.stands.rest.now
    c.in-Ok.ensures.lines c.in-Ok-read_stands.ensures.lines in
    let fit = lines_fit d (state_lines d ++ param_lines d) c.args.text.now c.in-Ok-read_stands.stands.rest.now begins in
    let both = length-append (state_lines d) (param_lines d) in
    omega (arith, fit, both, c.in-Ok.ensures.count, c.in-Ok-read_stands.ensures.count, c.length_of-bytes.ensures.is, c.length_of-bytes.ensures.few)

pub after_lines-requires : goal.after_lines-requires
after_lines-requires c = λ count e.
    let d = c.args.domain.now in
    let bad : IsFirstBadLine d (param_lines d) c.in-Ok.states.rest.now count = rw e at c.in-Err-read_stands.ensures.fault in
    let fit = counts_fit d (state_lines d) (param_lines d) c.args.text.now c.in-Ok.states.rest.now count c.in-Ok.ensures.lines bad in
    omega (arith, fit, c.in-Ok.ensures.count, c.length_of-bytes.ensures.is, c.length_of-bytes.ensures.few)

pub returns-in-Ok-read_stands-clause-whole : goal.returns-in-Ok-read_stands-clause-whole
returns-in-Ok-read_stands-clause-whole c =
    let d = c.args.domain.now in
    let xs = c.in-Ok-read_stands.stands.found.items in
    let rest = c.in-Ok-read_stands.stands.rest.now in
    let params = numbered (stand_param_lines d) 0 xs in
    let states : numbered (outset_state_line d) 0 c.in-Ok.states.found.items ≡ numbered (stand_state_line d) 0 xs
    = ap (numbered (outset_state_line d) 0) (sym (c.in-Ok-read_stands.ensures.states ∙ c.deref.ensures.value))
    ∙ sym (numbered_map (outset_state_line d) state_of_stand 0 xs) in
    c.in-Ok.ensures.whole ∙ ap (λ l. l ++ c.in-Ok.states.rest.now) states
    ∙ ap (λ l. numbered (stand_state_line d) 0 xs ++ l) c.in-Ok-read_stands.ensures.whole
    ∙ sym (append_assoc (numbered (stand_state_line d) 0 xs) params rest)

pub returns-in-Ok-read_stands-clause-lines : goal.returns-in-Ok-read_stands-clause-lines
returns-in-Ok-read_stands-clause-lines c =
    let d = c.args.domain.now in
    begins_both d (state_lines d) (param_lines d) c.args.text.now c.in-Ok.states.rest.now c.in-Ok-read_stands.stands.rest.now
    c.in-Ok.ensures.lines c.in-Ok-read_stands.ensures.lines

pub returns-clause-fault : goal.returns-clause-fault
returns-clause-fault c =
    let d = c.args.domain.now in
    c.after_lines.ensures d (state_lines d) (param_lines d) c.args.text.now c.in-Ok.states.rest.now c.in-Ok.ensures.count
    c.in-Ok.ensures.lines c.in-Err-read_stands.ensures.fault
