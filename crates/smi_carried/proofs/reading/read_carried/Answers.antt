use Rattle.smi_carried.proofs.Longest.{carried_longest, carried_whole}
use Rattle.smi_carried.proofs.reading.read_carried.Goals as goal

pub returns-clause-suits : goal.returns-clause-suits
returns-clause-suits c =
    let may = c.in-Ok-read_names.ensures.may in
    record { objects = c.in-Ok.ensures.count; few = may.few; each = may.each; once = may.once }

pub returns-clause-held : goal.returns-clause-held
returns-clause-held c = record { counts = c.in-Ok.ensures.held; names = c.in-Ok-read_names.ensures.may.held }

pub returns-clause-whole : goal.returns-clause-whole
returns-clause-whole c =
    carried_whole c.args.domain.now c.args.text.now c.in-Ok.counts.0.items c.in-Ok-read_names.names.0.items
    c.in-Ok.counts.1.now c.in-Ok-read_names.names.1.now c.in-Ok.ensures.whole c.in-Ok-read_names.ensures.whole
    c.in-Ok.ensures.all c.in-Ok-read_names.ensures.most

pub returns-clause-most : goal.returns-clause-most
returns-clause-most c =
    carried_longest c.args.domain.now c.args.text.now c.in-Ok.counts.0.items c.in-Ok-read_names.names.0.items
    c.in-Ok.counts.1.now c.in-Ok-read_names.names.1.now c.in-Ok.ensures.whole c.in-Ok-read_names.ensures.whole
    c.in-Ok.ensures.all c.in-Ok-read_names.ensures.most
