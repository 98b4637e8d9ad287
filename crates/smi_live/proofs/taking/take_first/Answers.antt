use Rattle.std.proofs.Common.{◌≡◌, ◌∙◌, ◌<◌, ◌^◌, subst, sym, true}
use Rattle.smi_live_once.specs.Forms.{is_once_name}
use Rattle.smi_live.proofs.Taken.{is_marked}
use Rattle.smi_live.proofs.taking.take_first.Goals as goal

pub take_room-requires-clause-marked : goal.take_room-requires-clause-marked
take_room-requires-clause-marked g c =
    let m = c.mark_of-mark in
    is_marked _ c.args.asked.now.request.now m.result.name.now m.result.number (subst (λ n. is_once_name n ≡ true) (sym m.ensures.name) c.requires.named) (subst (λ n. n < 2 ^ 64) (sym m.ensures.number) c.requires.small) (c.deref.ensures.value ∙ c.in_ok-line.ensures)
