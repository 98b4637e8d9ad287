-- One list is longer by one.
use Rattle.std.proofs.Common.{◌≡◌, ◌∙◌, ◌++◌, ◌∷◌, ◌-◌, ◌==◌, List, [], suc, ap, arith, refl, length, if◌then◌else◌}
use Rattle.std.proofs.lemmas.Option.{slice_get_read}
use Rattle.smi_run_plan.specs.declared.lines.Deed.{Deed}
use Rattle.smi_run_plan.specs.Plans.{deed_of}
use Rattle.smi_run_plan.proofs.Drafts.{part_set}
use Rattle.smi_run_plan.proofs.draft.add_part.Goals as goal

pub returns-clause-parts : goal.returns-clause-parts
returns-clause-parts c i =
    let lists = c.reach.new.sessions.items in
    let k = c.args.session in
    let p = c.from-count.result - 1 in
    let count : c.from-count.result ≡ k = c.from-count.ensures ∙ c.get.ensures.is in
    part_set lists k p i c.index_mut.result.now c.push.new.self c.args.line (omega
    (arith, count, c.get.ensures.least, c.get.ensures.is))
    (slice_get_read lists (length lists) p c.index_mut.result.now refl (omega
    (arith, count, c.get.ensures.least, c.get.ensures.is, c.in_ok-reach.ensures.count)) c.index_mut.ensures.value)
    c.in_ok-push.ensures.items
    ∙ ap (λ (l : List Deed). l ++ (if k == suc i then deed_of c.args.line ∷ [] else [])) (c.in_ok-reach.ensures.same i)
