-- The task after a change of a set.
use Rattle.std.proofs.Common.{subst}
use Rattle.std.specs.Arc.{arc_value}
use Rattle.sml_domain.specs.Program.{Nothing}
use Rattle.smi_interp.specs.declared.turn.Move.TheVariants as made
use Rattle.smi_interp.specs.Cursor.{left_in, later_of, Follows}
use Rattle.smi_interp.specs.Task.{body, env_before, env_now}
use Rattle.smi_interp.specs.Run.{task_of, here}
use Rattle.smi_interp.proofs.Going.{change_leads, each_more}
use Rattle.smi_interp.proofs.run.Run.note_change.Goals as goal

pub returns-clause-sound : goal.returns-clause-sound
returns-clause-sound c =
    let r = c.args.self.now in
    let d = arc_value r.domain in
    let t = task_of r in
    let next = left_in d c.next_of-self.result in
    let follows : Follows (here r) next = subst (λ d. Follows (left_in d r.at) (left_in d c.next_of-self.result)) c.deref.ensures c.next_of-self.ensures in
    record {
      leads = λ _.
          change_leads d (body t) (env_before t) r.turn.moves.items c.push_reserved.new.self.items (here r) next (later_of d r.later.items Nothing) (env_now t)
          c.args.add c.args.member c.args.set (c.requires.sound.leads c.requires.picked) c.push_reserved.ensures.items c.requires.asks follows;
      picks = λ e. absurd (cc (e, c.requires.picked));
      picked = rw c.requires.idle tt;
      each = each_more d r.turn.moves.items c.push_reserved.new.self.items (made.Changed c.args.add c.args.member c.args.set) c.requires.sound.each c.push_reserved.ensures.items tt;
      asks = rw c.requires.idle tt;
      settled = rw c.requires.idle tt;
      room = rw c.requires.idle tt;
      waits = rw c.requires.idle tt;
      verdicts = c.requires.sound.verdicts;
      readings = c.requires.sound.readings;
    }
