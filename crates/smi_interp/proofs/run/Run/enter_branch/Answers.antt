-- The branch that was picked, and what is behind it, are left.
use Rattle.std.proofs.Common.{◌-◌, length, subst}
use Rattle.std.specs.List.{slice_get}
use Rattle.std.specs.Arc.{arc_value}
use Rattle.smi_interp.specs.Cursor.{left_in, Follows, PicksLast}
use Rattle.smi_interp.specs.Run.{here}
use Rattle.smi_interp.proofs.Picking.{branch_left}
use Rattle.smi_interp.proofs.run.Run.enter_branch.Goals as goal

pub returns-clause-sound : goal.returns-clause-sound
returns-clause-sound c =
    let r = c.args.self.now in
    let d = arc_value r.domain in
    let branch = c.branch_by-branch.result in
    let next = c.next_of-next.result in
    let last : PicksLast d (slice_get r.turn.moves.items (length r.turn.moves.items - 1)) (here r) (left_in d branch) =
    subst (λ ms. PicksLast d (slice_get ms (length ms - 1)) (here r) (left_in d branch)) c.deref-2.ensures.value
    (subst (λ d. PicksLast d (slice_get c.deref-2.result.now (length c.deref-2.result.now - 1)) (left_in d r.at) (left_in d branch)) c.deref.ensures c.branch_by-branch.ensures) in
    let follows : Follows (here r) (left_in d next) = subst (λ d. Follows (left_in d r.at) (left_in d next)) c.deref-3.ensures c.next_of-next.ensures in
    let idle = c.requires.idle in
    record {
      leads = λ _. branch_left r branch next c.push_reserved.new.self.items c.requires.sound c.requires.read last follows c.push_reserved.ensures.items;
      picks = λ e. absurd (cc e);
      each = c.requires.sound.each;
      picked = rw idle tt;
      asks = rw idle tt;
      settled = rw idle tt;
      room = rw idle tt;
      waits = rw idle tt;
      verdicts = c.requires.sound.verdicts;
      readings = c.requires.sound.readings;
    }
