use Rattle.std.proofs.Common.{◌∙◌, ap, sym}
use Rattle.smi_journal_entries.specs.declared.entry.Entry.TheVariants.{Start, Post, Seen, NoMember}
use Rattle.smi_ledger.specs.Slots.{slot_by}
use Rattle.smi_ledger.proofs.slot.Slot.take.Goals as goal

pub returns-in_ok-args-in-Start-clause-ok : goal.returns-in_ok-args-in-Start-clause-ok
returns-in_ok-args-in-Start-clause-ok c =
    let by = slot_by c.args.dead c.args.place c.args.sets.now c.args.self.now in
    let s = c.in-Start in
    c.start.ensures c.args.sets.now ∙ ap (λ args. by (Start s.object s.sender s.number s.action args))
    c.in_ok-args-in-Start.ensures
    ∙ ap by (sym s.is)

pub returns-in_ok-share-in-Post-clause-ok : goal.returns-in_ok-share-in-Post-clause-ok
returns-in_ok-share-in-Post-clause-ok c =
    let p = c.in-Post in
    let e = Post p.sender p.target p.verdict p.action p.args in
    c.post.ensures c.args.dead c.args.place p.sender p.action p.args
    ∙ ap (λ sets. slot_by c.args.dead c.args.place sets c.args.self.now e) c.in_ok-share-in-Post.ensures
    ∙ ap (slot_by c.args.dead c.args.place c.args.sets.now c.args.self.now) (sym p.is)

pub returns-in-Wait-clause-ok : goal.returns-in-Wait-clause-ok
returns-in-Wait-clause-ok c =
    c.wait.ensures c.args.dead c.args.place c.in-Wait.object c.args.sets.now
    ∙ ap (slot_by c.args.dead c.args.place c.args.sets.now c.args.self.now) (sym c.in-Wait.is)

pub returns-in_ok-share-in-Seen-clause-ok : goal.returns-in_ok-share-in-Seen-clause-ok
returns-in_ok-share-in-Seen-clause-ok c =
    let s = c.in-Seen in
    let by = slot_by c.args.dead c.args.place in
    c.see.ensures c.args.dead c.args.place s.object
    ∙ ap (λ sets. by sets c.args.self.now (Seen s.object c.in_ok-readings-in-Seen.readings))
    c.in_ok-share-in-Seen.ensures
    ∙ ap (λ readings. by c.args.sets.now c.args.self.now (Seen s.object readings)) c.in_ok-readings-in-Seen.ensures
    ∙ ap (by c.args.sets.now c.args.self.now) (sym s.is)

pub returns-in-End-clause-ok : goal.returns-in-End-clause-ok
returns-in-End-clause-ok c =
    c.end.ensures c.args.dead c.args.place c.in-End.object c.args.sets.now
    ∙ ap (slot_by c.args.dead c.args.place c.args.sets.now c.args.self.now) (sym c.in-End.is)

pub returns-in-Kill-clause-ok : goal.returns-in-Kill-clause-ok
returns-in-Kill-clause-ok c =
    c.kill.ensures c.in-Kill.object c.in-Kill.cause c.args.sets.now
    ∙ ap (slot_by c.args.dead c.args.place c.args.sets.now c.args.self.now) (sym c.in-Kill.is)

pub returns-in_ok-share-in-NoMember-clause-ok : goal.returns-in_ok-share-in-NoMember-clause-ok
returns-in_ok-share-in-NoMember-clause-ok c =
    let n = c.in-NoMember in
    c.none.ensures c.args.dead c.args.place n.object n.set
    ∙ ap (λ sets. slot_by c.args.dead c.args.place sets c.args.self.now (NoMember n.object n.set))
    c.in_ok-share-in-NoMember.ensures
    ∙ ap (slot_by c.args.dead c.args.place c.args.sets.now c.args.self.now) (sym n.is)

pub returns-in-Insert-clause-ok : goal.returns-in-Insert-clause-ok
returns-in-Insert-clause-ok c =
    let i = c.in-Insert in
    c.change.ensures.insert c.args.dead c.args.place i.object i.member i.set c.args.sets.now
    ∙ ap (slot_by c.args.dead c.args.place c.args.sets.now c.args.self.now) (sym i.is)

pub returns-in-Remove-clause-ok : goal.returns-in-Remove-clause-ok
returns-in-Remove-clause-ok c =
    let r = c.in-Remove in
    c.change-in-Remove.ensures.remove c.args.dead c.args.place r.object r.member r.set c.args.sets.now
    ∙ ap (slot_by c.args.dead c.args.place c.args.sets.now c.args.self.now) (sym r.is)
