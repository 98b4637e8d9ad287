use Rattle.sml_read_parts.proofs.Heads.{set_head_err, set_brace_err, set_refused, set_whole}
use Rattle.sml_read_parts.proofs.Stopped.{handed}
use Rattle.sml_read_parts.proofs.reader.Reader.set.Goals as goal

pub returns-in_err-name-clause-next : goal.returns-in_err-name-clause-next
returns-in_err-name-clause-next g c =
    rw (handed _ c.in_err-name.field-0.0 c.from_residual.ensures.1)
    (set_head_err c.args.counts.now.classes c.args.counts.now.objects c.args.counts.now.sets c.args.self.now c.head.new.self c.in_err-name.field-0.0 c.requires.at_set c.in_err-name.ensures.read)

pub returns-in_err-sign-clause-next : goal.returns-in_err-sign-clause-next
returns-in_err-sign-clause-next g c =
    rw (handed _ c.in_err-sign.field-0.0 c.from_residual-in_err-sign.ensures.1)
    (set_brace_err c.args.counts.now.classes c.args.counts.now.objects c.args.counts.now.sets c.args.self.now c.head.new.self c.sign.new.self c.in_ok-name.name c.in_err-sign.field-0.0 c.requires.at_set c.in_ok-name.ensures.read c.in_err-sign.ensures.none)

pub returns-in_err-members-clause-next : goal.returns-in_err-members-clause-next
returns-in_err-members-clause-next g c =
    let open' = c.in_ok-sign.ensures.read in
    let e = c.in_err-members.field-0.0 in
    rw (handed _ e c.from_residual-in_err-members.ensures.1)
    (set_refused (λ v. v.items) c.args.counts.now.classes c.args.counts.now.objects c.args.counts.now.sets c.args.self.now c.head.new.self c.sign.new.self c.members-read.new.self c.ended.new.self c.in_ok-name.name c.members-read.result c.ended.result open'.0 e c.in_err-members.was c.requires.at_set c.in_ok-name.ensures.read (open'.1, open'.2) c.members-read.ensures c.ended.ensures)

pub returns-clause-next : goal.returns-clause-next
returns-clause-next g c =
    let open' = c.in_ok-sign.ensures.read in
    set_whole (λ v. v.items) c.args.counts.now.classes c.args.counts.now.objects c.args.counts.now.sets c.args.self.now c.head.new.self c.sign.new.self c.members-read.new.self c.ended.new.self c.in_ok-name.name c.members-read.result c.ended.result c.in_ok-members.members open'.0 c.in_ok-members.was c.requires.at_set c.in_ok-name.ensures.read (open'.1, open'.2) c.members-read.ensures c.ended.ensures
